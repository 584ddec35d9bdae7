-- The one channel that is meant, from the test at each channel.
use Rattle.std.proofs.Common.{◌≡◌, ℕ, ◌<◌, ◌≤◌, Bool, true, false, not, leb, List, length, is_some, Some, None, Option, Bor, sym, refl, ap, ◌∙◌, inl, inr, arith}
use denote.Param.Members.{Mut}
use Rattle.std.specs.declared.iter.Filter.{Filter}
use Rattle.std.specs.declared.ops.Range.{Range}
use Rattle.std.specs.Bool.{then_some}
use Rattle.std.specs.Fn.{CalledAt}
use Rattle.std.specs.Iterator.Adapters.{filter_source}
use Rattle.std.specs.Option.{MatchOption}
use Rattle.std.proofs.lemmas.Bool.{cases_lt, le-leb, leb-true, lt-leb, cond-true, cond-false}
use Rattle.frame.specs.Frames.{Parts}
use Rattle.line.specs.Addressing.{means?}
use Rattle.line.specs.Requests.{asked_by}
use Rattle.rack.specs.Meaning.{record_at}
use Rattle.record.specs.declared.Record.{Record}
use Rattle.runs.specs.Places.{At, here, there, only_place}
use Rattle.runs.proofs.Places.{not_some, only_place_lem, place_only}
use Rattle.serving.specs.Meant.{asked_of?, meant_at?, sole_meant, ToldExactly}
use Rattle.serving.proofs.Searching.{Fails, Found}
use Rattle.serving.proofs.Writes.{record_there, at_record, channel_record, from_cond}

below : {records : List Record} {k : ℕ} {r : Record} → At records k r → k < length records
below here = omega arith
below (there a) = let l = below a in omega arith

abbrev meant_of : Parts → Option Record → Bool
meant_of f o = asked_of? f.address (asked_by f.command f.«data») o

module _ (f : Parts) (records : List Record) (few : length records ≤ 15) where
  tested : {k : ℕ} {r : Record} → At records k r → meant_at? f records k ≡ means? f r
  tested {k} a = ap (meant_of f) (channel_record records k few ∙ record_there a)

  there_is : (k : ℕ) → meant_at? f records k ≡ true → (r : Record) × At records k r
  there_is k t = go (record_at records k) refl (ap (meant_of f) (sym (channel_record records k few)) ∙ t)
    where
      go : (o : Option Record) → record_at records k ≡ o → meant_of f o ≡ true → (r : Record) × At records k r
      go (Some r) e t = (r, at_record records k r e)
      go None e t = cc

  sole_few : only_place (means? f) records ≡ sole_meant f records
  sole_few = sym (cond-true _ _ _ (le-leb (length records) 15 few))

  pub none_meant : ((k : ℕ) → k < length records → meant_at? f records k ≡ false) → None ≡ sole_meant f records
  none_meant h = sym (not_some (only_place (means? f) records) (λ k e.
      let p = place_only (means? f) records k e in
      let t = p.2.holds p.0 p.1 in
      let n = sym (tested p.1) ∙ h k (below p.1) in
      cc)) ∙ sole_few

  pub one_meant : (i : ℕ) → meant_at? f records i ≡ true → ((k : ℕ) → k < length records → meant_at? f records k ≡ true → k ≡ i) → Some i ≡ sole_meant f records
  one_meant i t only =
      let p = there_is i t in
      sym (only_place_lem (means? f) p.1 (record {
        holds = λ r a. sym (tested a) ∙ t;
        alone = λ k r a e. only k (below a) (tested a ∙ e);
      })) ∙ sole_few

  pub two_meant : (i j : ℕ) → i < j → meant_at? f records i ≡ true → meant_at? f records j ≡ true → None ≡ sole_meant f records
  two_meant i j l s t = sym (not_some (only_place (means? f) records) (λ k e.
      let o = (place_only (means? f) records k e).2 in
      let p = there_is i s in
      let q = there_is j t in
      let a = o.alone i p.0 p.1 (sym (tested p.1) ∙ s) in
      let b = o.alone j q.0 q.1 (sym (tested q.1) ∙ t) in
      omega arith)) ∙ sole_few

-- the first that is meant is the only one, unless the search goes on to another
module _ {F : Type 0} (g : Mut F (Bor ℕ × Unit {0}) Bool) (p : F) (f : Parts) (records : List Record) (answers : (x : ℕ) (b : Bool) (q : F) → CalledAt g p x b q → (q ≡ p) × (b ≡ meant_at? f records x))
    (few : length records ≤ 15) (s t u : Filter (Range ℕ) F) (source : filter_source s ≡ record { start = 0; end = length records }) where
  starts : (filter_source s).start ≡ 0
  starts = ap (λ (x : Range ℕ). x.start) source

  ends : (filter_source s).end ≡ length records
  ends = ap (λ (x : Range ℕ). x.end) source

  pub first_meant : (o : Option ℕ) → o ≡ None → MatchOption o (Fails g p (meant_at? f records) answers (filter_source s).start (filter_source s).end) (λ i. Found g p (meant_at? f records) answers s t i) → None ≡ sole_meant f records
  first_meant None e fails = none_meant f records few (λ k l. fails k (omega (arith, starts)) (omega (arith, ends)))
  first_meant (Some i) e fails = cc

  pub second_meant : (i : ℕ) → Found g p (meant_at? f records) answers s t i → (o : Option ℕ) (b : Bool)
      → MatchOption o (Fails g p (meant_at? f records) answers (filter_source t).start (filter_source t).end) (λ j. Found g p (meant_at? f records) answers t u j)
      → is_some o ≡ not b → then_some b i ≡ sole_meant f records
  second_meant i found None true fails e = one_meant f records few i found.passes (λ k l m. elim (cases_lt k i) [
    | inl before ↦ let n = found.first k (omega (arith, starts)) before in cc
    | inr after ↦ elim (cases_lt i k) [
      | inl behind ↦ let n = fails k (omega (arith, found.next)) (omega (arith, found.end, ends)) in cc
      | inr same ↦ omega arith
    ]
  ])
  second_meant i found None false fails e = cc
  second_meant i found (Some j) true other e = cc
  second_meant i found (Some j) false other e = two_meant f records few i j (omega (arith, found.next, other.low)) found.passes other.passes

-- the channel told is the one that is meant, and no other is
pub told_exactly : (f : Parts) (records : List Record) (told : Option ℕ) → told ≡ sole_meant f records → ToldExactly f records told
told_exactly f records told e k = (
  λ t.
      let p = from_cond (leb (length records) 15) (only_place (means? f) records) k (sym e ∙ t) in
      let q = place_only (means? f) records k p.1 in
      record { few = leb-true (length records) 15 p.0; «record» = q.0; at = q.1; only = q.2 },
  λ m. e ∙ (cond-true _ _ _ (le-leb (length records) 15 m.few) ∙ only_place_lem (means? f) m.at m.only),
)

-- of a rack with more channels none is told
pub too_many : (f : Parts) (records : List Record) → 15 < length records → None ≡ sole_meant f records
too_many f records l = sym (cond-false _ _ _ (lt-leb (length records) 15 l))
