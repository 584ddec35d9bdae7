-- Bytes without a fault are those whose fields are in range.
use Rattle.std.proofs.Common.{◌≡◌, ℕ, ◌≤◌, Bool, true, false, ltb, List, [], ◌∷◌, length, get_or, take, drop, None, refl, ap, inl, inr, arith}
use Rattle.std.specs.List.{AllByRecursion, find}
use Rattle.std.proofs.lemmas.List.{length-take-le, length-drop, take_all}
use Rattle.std.proofs.lemmas.Bool.{cases_Bool, le-ltb, ltb-false, not-false, not_from_true, or_from, or_parts}
use Rattle.record.specs.Bytes.{zeros?}
use Rattle.record.specs.Faults.{offends?, faults, fault_of}
use Rattle.record.specs.Lawful.{Lawful}
use Rattle.record.specs.Layout.{decoded}
use Rattle.record.proofs.Numbers.{Byte, below24, below32}
use Rattle.record.proofs.Patterns.{finite_value}

module _ {X : Type 0} (test : X → Bool) where
  none_first : (xs : List X) → AllByRecursion (λ x. test x ≡ false) xs → find test xs ≡ None
  none_first [] h = refl
  none_first (x ∷ xs) h = rw h.0 (none_first xs h.1)

  first_none : (xs : List X) → find test xs ≡ None → AllByRecursion (λ x. test x ≡ false) xs
  first_none [] e = tt
  first_none (x ∷ xs) e = elim (cases_Bool (test x)) [
    | inl t ↦ absurd (let z : ◌≡◌ {A = ℕ} 0 1 = let h = rw t at e in cc in omega arith)
    | inr t ↦ (t, first_none xs (rw t at e))
  ]

-- the seven bytes from 73 on are all the rest
pub reserved_read : (bytes : List ℕ) → length bytes ≡ 80 → zeros? (take 7 (drop 73 bytes)) ≡ zeros? (drop 73 bytes)
reserved_read bytes l = ap zeros? (take_all 7 (drop 73 bytes) (simp length-drop (omega arith)))

pub faultless : (bytes : List ℕ) → Lawful (decoded bytes) → get_or bytes 9 0 ≤ 3 → zeros? (drop 73 bytes) ≡ true → fault_of bytes ≡ None
faultless bytes h flags zeros =
    let f = h.fields in
    none_first (offends? bytes) faults (
      le-ltb 15 (get_or bytes 4 0) f.polling_address,
      (
        or_from (ltb (get_or bytes 5 0) 2) (ltb 15 (get_or bytes 5 0)) (le-ltb (get_or bytes 5 0) 2 f.preambles.0) (le-ltb 15 (get_or bytes 5 0) f.preambles.1),
        (
          le-ltb 3 (get_or bytes 9 0) flags,
          (
            not_from_true _ f.setpoint.1,
            (
              le-ltb 100 (get_or bytes 14 0) f.ceiling,
              (
                not_from_true _ f.full_scale,
                (
                  not_from_true _ h.reading.0.0,
                  (
                    not_from_true _ h.reading.1.0,
                    (not_from_true _ zeros, tt),
                  ),
                ),
              ),
            ),
          ),
        ),
      ),
    )

-- what bytes without a fault tell, besides a lawful record
pub record Faultless (bytes : List ℕ) : Type 0 where
  pub lawful : Lawful (decoded bytes)
  pub flags : get_or bytes 9 0 ≤ 3
  pub zeros : zeros? (drop 73 bytes) ≡ true

pub from_faultless : (bytes : List ℕ) → length bytes ≡ 80 → AllByRecursion Byte bytes → fault_of bytes ≡ None → Faultless bytes
from_faultless bytes l all e =
    let t = first_none (offends? bytes) faults e in
    let preambles = or_parts (ltb (get_or bytes 5 0) 2) (ltb 15 (get_or bytes 5 0)) t.1.0 in
    let u = t.1.1 in
    let v = u.1.1.1 in
    record {
      lawful = record {
        fields = record {
          identification = below24 bytes all 1;
          polling_address = ltb-false 15 (get_or bytes 4 0) t.0;
          preambles = (ltb-false (get_or bytes 5 0) 2 preambles.0, ltb-false 15 (get_or bytes 5 0) preambles.1);
          assembly_number = below24 bytes all 6;
          setpoint = (below32 bytes all 10, not-false _ u.1.0);
          ceiling = ltb-false 100 (get_or bytes 14 0) u.1.1.0;
          full_scale = not-false _ v.0;
        };
        reading = (finite_value _ (not-false _ v.1.0), finite_value _ (not-false _ v.1.1.0));
        text = length-take-le 45 (drop 28 bytes) (simp length-drop (omega arith));
      };
      flags = ltb-false 3 (get_or bytes 9 0) u.0;
      zeros = not-false _ v.1.1.1.0;
    }
