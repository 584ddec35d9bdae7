-- A value is 0 to 100 exactly where a ceiling of 100 percent admits it; what follows for lawful setpoints.
use Rattle.std.proofs.Common.{◌≡◌, ℕ, ◌+◌, ◌*◌, ◌<◌, ◌≤◌, Bool, true, false, cond, not, ◌&&◌, ◌||◌, eqb, ltb, is_ok, Ok, Err, sym, refl, ap, ◌∙◌, inl, inr, mul-le-mul_right, arith}
use lib.Ieee.{Float, nan, inf, fin, is_nan, lt, le, up, down}
use lib.Ieee.Fits.{down_pos}
use Rattle.std.specs.Float.{float_is_finite, ratio_ceil}
use Rattle.std.proofs.lemmas.Bool.{and_from, and_parts, cases_eq, false≢true, ne_eqb}
use Rattle.std.proofs.lemmas.Bool.Decides.{nat_tests}
use Rattle.setpoint.specs.Numbers.{parts_of_a_percent, full_load, minus_zero}
use Rattle.setpoint.specs.declared.SetpointRefusal.TheVariants.{NotANumber, AboveCeiling, BelowZero}
use Rattle.setpoint.specs.Lawful.{lawful?}
use Rattle.setpoint.specs.LawfulLaws.{LawfulLaws}
use Rattle.setpoint.specs.Load.{load_of}
use Rattle.setpoint.specs.Refusals.{admitted_under}
use Rattle.setpoint.specs.Value.{value_of, nought, hundred}
use Rattle.setpoint.proofs.Ceiling.{raised_covers, raised_least}

-- a value a / d is at most 100 exactly where its load is at most 102,400
pub at_most : (a d : ℕ) → 0 < d → ratio_ceil (a * parts_of_a_percent) d ≤ full_load → a ≤ 100 * d
at_most a d D h = omega (arith, raised_covers (a * parts_of_a_percent) d D, mul-le-mul_right d h)

pub load_at_most : (a d : ℕ) → 0 < d → a ≤ 100 * d → ratio_ceil (a * parts_of_a_percent) d ≤ full_load
load_at_most a d D h = raised_least (a * parts_of_a_percent) d full_load D (omega arith)

-- the two comparisons of a / d with its sign, as `le` and `lt` make them
plus : (a d n : ℕ) → 0 < d → (n ≤ full_load → a ≤ 100 * d) → (a ≤ 100 * d → n ≤ full_load)
    → ((ltb (0 * 1 * d) (a * 1) || (eqb (0 * 1 * d) (a * 1) && true)) && (ltb (a * 1) (25 * 4 * d) || (eqb (a * 1) (25 * 4 * d) && true)))
    ≡ is_ok (cond (ltb (a * 1) (0 * 1 * d)) (Err BelowZero) (cond (ltb full_load n) (Err AboveCeiling) (Ok n)))
plus a d n D p q = grind (arith, nat_tests)

minus : (a d n : ℕ) → 0 < d → (a ≤ 100 * d → n ≤ full_load)
    → ((eqb (0 * 1 * d) (a * 1) && eqb (0 * 1 * d) 0) && (ltb 0 (a * 1 + 25 * 4 * d) || (eqb (a * 1) (25 * 4 * d) && eqb (a * 1) 0)))
    ≡ is_ok (cond (ltb 0 (a * 1 + 0 * 1 * d)) (Err BelowZero) (cond (ltb full_load n) (Err AboveCeiling) (Ok n)))
minus a d n D q = grind (arith, nat_tests)

pub hundred_admits : (x : Float) → (le nought x && le x hundred) ≡ is_ok (admitted_under 100 x)
unfolding is_nan lt le float_is_finite
hundred_admits nan = refl
hundred_admits (inf true) = refl
hundred_admits (inf false) = refl
hundred_admits (fin false m e) = plus (m * up e) (down e) (load_of (fin false m e)) (down_pos e) (at_most (m * up e) (down e) (down_pos e)) (load_at_most (m * up e) (down e) (down_pos e))
hundred_admits (fin true m e) = minus (m * up e) (down e) (load_of (fin true m e)) (down_pos e) (load_at_most (m * up e) (down e) (down_pos e))

-- ---- the laws of lawful setpoints

-- of the three tests of `admitted_under`, the last one at two ceilings
wider : (nans below fine : Bool) (c n : ℕ) → c ≤ 100 → is_ok (cond nans (Err NotANumber) (cond below (Err BelowZero) (cond (not fine || ltb (c * parts_of_a_percent) n) (Err AboveCeiling) (Ok n)))) ≡ true
    → (is_ok (cond nans (Err NotANumber) (cond below (Err BelowZero) (cond (not fine || ltb full_load n) (Err AboveCeiling) (Ok n)))) ≡ true) × (n ≤ full_load) × ((fine && not below) ≡ true)
wider true below fine c n h ok = absurd (false≢true ok)
wider false true fine c n h ok = absurd (false≢true ok)
wider false false false c n h ok = absurd (false≢true ok)
wider false false true c n h ok = (grind (arith, nat_tests), grind (arith, nat_tests), refl)

pub lawful_laws : (p : ℕ) → LawfulLaws p
lawful_laws p =
    let x = value_of p in
    let within = le nought x && le x hundred in
    let narrowed = λ (c : ℕ) (h : c ≤ 100). wider (is_nan x) (lt x nought) (float_is_finite x) c (load_of x) h in
    let lawful = λ (l : lawful? p ≡ true). narrowed 100 (omega arith) (sym (hundred_admits x) ∙ (and_parts within (not (eqb p minus_zero)) l).0) in
    record {
      loaded = λ l. (lawful l).2;
      bounded = λ l. (lawful l).1;
      admits = λ percent h ok. elim (cases_eq p minus_zero) [
        | inl e ↦ inr e
        | inr ne ↦ inl (and_from within (not (eqb p minus_zero)) (hundred_admits x ∙ (narrowed percent h ok).0) (ap not (ne_eqb p minus_zero ne)))
      ];
    }
