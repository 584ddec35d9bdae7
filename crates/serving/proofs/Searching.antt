-- A search through a range of numbers by a filter.
use Rattle.std.proofs.Common.{◌≡◌, ℕ, ◌+◌, ◌<◌, ◌≤◌, Bool, true, false, List, [], ◌∷◌, Some, None, Option, Bor, sym, ap, ◌∙◌, subst, inl, inr, arith}
use denote.Param.Members.{Mut}
use Rattle.std.specs.declared.iter.Filter.{Filter}
use Rattle.std.specs.declared.ops.Range.{Range}
use Rattle.std.specs.Fn.{CalledAt}
use Rattle.std.specs.Iterator.{Yields}
use Rattle.std.specs.Iterator.Adapters.{filter_source, filter_callee, filter_steps}
use Rattle.std.specs.List.{FoldsTo}
use Rattle.std.specs.Option.{MatchOption}
use Rattle.std.proofs.iter.Yields.{nat_range_steps}
use Rattle.std.proofs.lemmas.Bool.{cases_lt}

module _ {F : Type 0} (g : Mut F (Bor ℕ × Unit {0}) Bool) (f : F) (test : ℕ → Bool) (answers : (x : ℕ) (b : Bool) (q : F) → CalledAt g f x b q → (q ≡ f) × (b ≡ test x)) where
  -- from `a` on and below `b` nothing passes
  abbrev pub Fails : ℕ → ℕ → Type 0
  Fails a b = (k : ℕ) → a ≤ k → k < b → test k ≡ false

  fails_more : (a b : ℕ) → test a ≡ false → Fails (a + 1) b → Fails a b
  fails_more a b here rest k low high = elim (cases_lt a k) [
    | inl l ↦ rest k (omega arith) high
    | inr l ↦ let same : k ≡ a = omega arith in ap test same ∙ here
  ]

  passed_over : (xs : List ℕ) (s t : Range ℕ) (j : F) → Yields nat_range_steps s xs t → FoldsTo (λ p x q. CalledAt g p x false q) f xs j
      → (j ≡ f) × (t.end ≡ s.end) × (s.start ≤ t.start) × Fails s.start t.start
  passed_over [] s t j y h = (sym h, ap (λ (k : Range ℕ). k.end) (sym y), omega (arith, ap (λ (k : Range ℕ). k.start) y), λ k low high. absurd (omega (arith, ap (λ (k : Range ℕ). k.start) y)))
  passed_over (x ∷ xs) s t j (m, step, rest) (q, call, calls) =
      let a = answers x false q call in
      let more = passed_over xs m t j rest (subst (λ p. FoldsTo (λ p x q. CalledAt g p x false q) p xs j) a.0 calls) in
      let at : m.start ≡ s.start + 1 = step.1.2 in
      let here : test s.start ≡ false = ap test (sym step.1.1) ∙ sym a.1 in
      (more.0, more.1 ∙ step.0, omega (arith, more.2, at), fails_more s.start t.start here (rw at at more.3))

  -- what is left of a search that has found i
  pub record Found (s t : Filter (Range ℕ) F) (i : ℕ) : Type 0 where
    pub low : (filter_source s).start ≤ i
    pub high : i < (filter_source s).end
    pub passes : test i ≡ true
    pub first : Fails (filter_source s).start i
    pub next : (filter_source t).start ≡ i + 1
    pub end : (filter_source t).end ≡ (filter_source s).end
    pub callee : filter_callee t ≡ f

  pub next_found : (s t : Filter (Range ℕ) F) (r : Option ℕ) → filter_callee s ≡ f → filter_steps nat_range_steps g s r t
      → MatchOption r (Fails (filter_source s).start (filter_source s).end) (λ i. Found s t i)
  next_found s t None e (xs, j, (m, y, step), h, c) =
      let p = passed_over xs (filter_source s) m j y (subst (λ p. FoldsTo (λ p x q. CalledAt g p x false q) p xs j) e h) in
      λ k low high. p.3 k low (omega (arith, step.1.0, p.1))
  next_found s t (Some i) e (xs, j, (m, y, step), h, c) =
      let p = passed_over xs (filter_source s) m j y (subst (λ p. FoldsTo (λ p x q. CalledAt g p x false q) p xs j) e h) in
      let at : i ≡ m.start = step.1.1 in
      let a = answers i true (filter_callee t) (subst (λ p. CalledAt g p i true (filter_callee t)) p.0 c) in
      record {
        low = omega (arith, p.2, at);
        high = omega (arith, p.1, step.1.0, at);
        passes = sym a.1;
        first = rw (sym at) at p.3;
        next = omega (arith, step.1.2, at);
        end = step.0 ∙ p.1;
        callee = a.0;
      }
