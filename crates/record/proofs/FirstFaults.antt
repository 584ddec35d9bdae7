-- The first fault is the one of the smallest offset.
use Rattle.std.proofs.Common.{◌≡◌, ℕ, ◌<◌, Bool, true, false, List, [], ◌∷◌, Some, ap, subst, inl, inr, arith}
use Rattle.std.specs.List.{AllByRecursion, find}
use Rattle.std.proofs.ByRecursion.{All-weaker}
use Rattle.std.proofs.lemmas.Bool.{cases_Bool}
use Rattle.record.specs.declared.faults.RecordFault.{RecordFault}
use Rattle.record.specs.declared.faults.RecordFault.TheVariants.{PollingAddress, Preambles, Flags, Setpoint, Ceiling, FullScale, Flow, Temperature, Reserved}
use Rattle.record.specs.Faults.{offset_of, offends?, faults, fault_of, FirstFault}

-- ---- a list in the order of a key

module _ {X : Type 0} (key : X → ℕ) where
  abbrev Linked : X → List X → Type 0
  Linked x [] = Unit {0}
  Linked x (y ∷ ys) = (key x < key y) × Linked y ys

  linked_all : (x : X) (ys : List X) → Linked x ys → AllByRecursion (λ y. key x < key y) ys
  linked_all x [] h = tt
  linked_all x (y ∷ ys) h = (h.0, All-weaker (λ z. key y < key z) (λ z. key x < key z) (λ z l. let k = h.0 in omega arith) ys (linked_all y ys h.1))

  module _ (test : X → Bool) where
    first_passes : (x : X) (xs : List X) → find test xs ≡ Some x → test x ≡ true
    first_passes x [] e = let z : ◌≡◌ {A = ℕ} 0 1 = cc in absurd (omega arith)
    first_passes x (y ∷ xs) e = elim (cases_Bool (test y)) [
      | inl t ↦ let s : y ≡ x = let h = rw t at e in cc in subst (λ (z : X). test z ≡ true) s t
      | inr t ↦ first_passes x xs (rw t at e)
    ]

    -- a head that passes is the first that passes
    passed : (x y : X) (ys : List X) → test y ≡ true → find test (y ∷ ys) ≡ Some x → key y < key x → ⊥
    passed x y ys t e l =
        let s : y ≡ x = let h = rw t at e in cc in
        let k : key y ≡ key x = ap key s in
        omega arith

    none_before : (x y : X) (ys : List X) → Linked y ys → find test (y ∷ ys) ≡ Some x → AllByRecursion (λ z. key z < key x → test z ≡ false) (y ∷ ys)
    none_before x y [] h e = elim (cases_Bool (test y)) [
      | inl t ↦ (λ l. absurd (passed x y [] t e l), tt)
      | inr t ↦ (λ _. t, tt)
    ]
    none_before x y (z ∷ zs) h e = elim (cases_Bool (test y)) [
      | inl t ↦
          (λ l. absurd (passed x y (z ∷ zs) t e l), All-weaker (λ w. key y < key w) (λ w. key w < key x → test w ≡ false) (λ w g l. let k = passed x y (z ∷ zs) t e in absurd (k (omega arith))) (z ∷ zs) (linked_all y (z ∷ zs) h))
      | inr t ↦ (λ _. t, none_before x z zs h.1 (rw t at e))
    ]

-- what holds of all faults holds of each
each : (P : RecordFault → Type 0) → AllByRecursion P faults → (f : RecordFault) → P f
each P h PollingAddress = h.0
each P h Preambles = h.1.0
each P h Flags = h.1.1.0
each P h Setpoint = h.1.1.1.0
each P h Ceiling = h.1.1.1.1.0
each P h FullScale = h.1.1.1.1.1.0
each P h Flow = h.1.1.1.1.1.1.0
each P h Temperature = h.1.1.1.1.1.1.1.0
each P h Reserved = h.1.1.1.1.1.1.1.1.0

pub first_fault : (bytes : List ℕ) (f : RecordFault) → fault_of bytes ≡ Some f → FirstFault bytes f
first_fault bytes f e = record {
  here = first_passes offset_of (offends? bytes) f faults e;
  before = each (λ g. offset_of g < offset_of f → offends? bytes g ≡ false) (none_before offset_of (offends? bytes) f PollingAddress (Preambles ∷ Flags ∷ Setpoint ∷ Ceiling ∷ FullScale ∷ Flow ∷ Temperature ∷ Reserved ∷ []) (omega arith, (omega arith, (omega arith, (omega arith, (omega arith, (omega arith, (omega arith, (omega arith, tt)))))))) e);
}
