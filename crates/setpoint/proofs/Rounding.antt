-- A lawful setpoint times a full scale, and that divided by 100, stay finite in binary32.
use Rattle.std.proofs.Common.{◌≡◌, ℕ, ◌*◌, ◌^◌, ◌<◌, ◌≤◌, Bool, true, false, not, T, leb, ℤ, pos, Some, sym, refl, ap, ◌∙◌, subst, le_trans, le_of_lt, mul-le-mul_right, mul-le-mul, mul-pos, arith}
use native.Mathlib.Nat.{mul-mul-mul_comm}
use lib.Ieee.{Float, nan, inf, fin, binary32, up, down, unlike, round, mul, div, of_int, lt, le, is_nan, nan_bits, of_bits, to_bits}
use lib.Ieee.Bits.{nan_bits_is, of_bits-to_bits}
use lib.Ieee.Back.{round_whole}
use lib.Ieee.Exact.{HasValue, units_val}
use lib.Ieee.Fits.{div-fits, down_pos, round_is}
use lib.Ieee.Order.{drop, kept, round_mono}
use lib.Ieee.Scale.{finite, grid, round_under}
use Rattle.std.specs.Float as Floats
use Rattle.std.proofs.lemmas.Bool.{and_parts, false≢true, le-leb}
use Rattle.setpoint.specs.Lawful.{lawful?}
use Rattle.setpoint.specs.Load.{load_of}
use Rattle.setpoint.specs.Numbers.{full_load, most_full_scale}
use Rattle.setpoint.specs.Units.{in_units, units_of}
use Rattle.setpoint.specs.Value.{value_of, nought, hundred}
use Rattle.setpoint.proofs.Percents.{at_most, lawful_laws}

-- x is finite, and below 2 ^ 128 in size
abbrev Bounded : Float → Type 0
Bounded x = (s : Bool) × (g : ℕ) × HasValue x s g (2 ^ 149) × (g < 2 ^ 277)

-- what lies between 0 and a finite value is finite
between : (x y : Float) → T (finite y) → T (le nought x) → T (le x y) → T (finite x)
unfolding le
between nan y f l h = absurd l
between (inf true) y f l h = absurd l
between (inf false) nan f l h = absurd f
between (inf false) (inf t) f l h = absurd f
between (inf false) (fin t n d) f l h = absurd h
between (fin s m e) y f l h = tt

zero_rounds : round binary32 false 0 1 ≡ nought
unfolding round
zero_rounds = refl

-- a fraction that is no larger than one that rounds to a finite value does so too, at either sign
round_bounded : (s : Bool) (a b c d : ℕ) → 0 < b → 0 < d → a * d ≤ c * b → T (finite (round binary32 false c d)) → Bounded (round binary32 s a b)
round_bounded s a b c d B D h F =
    let above : T (le nought (round binary32 false a b)) = subst (λ (z : Float). T (le z (round binary32 false a b))) zero_rounds (round_mono binary32 0 1 a b (omega arith) B (omega arith)) in
    let below : T (le (round binary32 false a b) (round binary32 false c d)) = round_mono binary32 a b c d B D h in
    let under : grid binary32 a b < 2 ^ 277 = round_under binary32 a b (between (round binary32 false a b) (round binary32 false c d) F above below) in
    let n = a * 2 ^ 149 in (
      s,
      grid binary32 a b,
      subst (λ (z : Float). HasValue z s (grid binary32 a b) (2 ^ 149)) (sym (round_is binary32 s a b)) (units_val binary32 s (kept 24 n b) (drop 24 n b) under),
      under,
    )

-- ---- the product

product_of : (s : Bool) (m : ℕ) (e : ℤ) (y : Float) (n : ℕ) → HasValue y false n 1 → n ≤ most_full_scale → m * up e ≤ 100 * down e → Bounded (mul binary32 (fin s m e) y)
unfolding mul
product_of s m e nan n v N h = absurd v
product_of s m e (inf t) n v N h = absurd v
product_of s m e (fin t k d) n v N h =
    let g : k * up d ≤ most_full_scale * down d = le_trans (omega (arith, v.1)) (mul-le-mul_right (down d) N) in
    let p : m * up e * (k * up d) ≤ 100 * down e * (most_full_scale * down d) = mul-le-mul h g in
    round_bounded (unlike s t) (m * up e * (k * up d)) (down e * down d) 100000000 1 (mul-pos (down_pos e) (down_pos d)) (omega arith)
    (omega (arith, p, mul-mul-mul_comm 100 (down e) most_full_scale (down d))) (unfold round in tt)

product : (x : Float) (n : ℕ) → n ≤ most_full_scale → Floats.float_is_finite x ≡ true → load_of x ≤ full_load → Bounded (mul binary32 x (of_int binary32 (pos n)))
unfolding Floats.float_is_finite of_int
product nan n N f h = absurd (false≢true f)
product (inf s) n N f h = absurd (false≢true f)
product (fin s m e) n N f h = product_of s m e (round binary32 false n 1) n (round_whole binary32 false n (omega arith)) N (at_most (m * up e) (down e) (down_pos e) h)

-- ---- the quotient

quotient : (v : Float) → Bounded v → Bounded (div binary32 v hundred)
unfolding div
quotient nan b = absurd b.2
quotient (inf s) b = absurd b.2
quotient (fin s m e) b =
    let g : b.1 * down e ≤ 2 ^ 277 * down e = mul-le-mul_right (down e) (le_of_lt b.3) in
    round_bounded (unlike s false) (m * up e * 1) (25 * 4 * down e) (2 ^ 128) 100 (omega (arith, down_pos e)) (omega arith) (omega (arith, g, b.2.1)) (unfold round in tt)

-- ---- a lawful setpoint in units

bounded_finite : (x : Float) → Bounded x → Floats.float_is_finite x ≡ true
unfolding Floats.float_is_finite
bounded_finite nan b = absurd b.2
bounded_finite (inf s) b = absurd b.2
bounded_finite (fin s m e) b = refl

finite_number : (x : Float) → Floats.float_is_finite x ≡ true → T (not (is_nan x))
unfolding Floats.float_is_finite is_nan
finite_number nan f = absurd (false≢true f)
finite_number (inf s) f = tt
finite_number (fin s m e) f = tt

lawful_finite : (p : ℕ) → lawful? p ≡ true → Floats.float_is_finite (value_of p) ≡ true
lawful_finite p l = (and_parts (Floats.float_is_finite (value_of p)) (not (lt (value_of p) nought)) ((lawful_laws p).loaded l)).0

pub lawful_pattern : (p : ℕ) → lawful? p ≡ true → T (not (nan_bits binary32 p))
lawful_pattern p l = subst (λ (b : Bool). T (not b)) (sym (nan_bits_is binary32 p)) (finite_number (value_of p) (lawful_finite p l))

units_finite : (p n : ℕ) → lawful? p ≡ true → n ≤ most_full_scale → Floats.float_is_finite (units_of (value_of p) n) ≡ true
units_finite p n l N =
    bounded_finite (units_of (value_of p) n) (quotient (mul binary32 (value_of p) (of_int binary32 (pos n))) (product (value_of p) n N (lawful_finite p l) ((lawful_laws p).bounded l)))

-- ---- as the code computes it, with its literal 100.0

abbrev computed : ℕ → ℕ → Float
computed p n = div binary32 (mul binary32 (of_bits binary32 p) (of_int binary32 (pos n))) (of_bits binary32 1120403456)

computed_is : (p n : ℕ) → computed p n ≡ units_of (value_of p) n
unfolding of_bits
computed_is p n = refl

pub computed_number : (p n : ℕ) → lawful? p ≡ true → n ≤ most_full_scale → T (not (is_nan (computed p n)))
computed_number p n l N = subst (λ (z : Float). T (not (is_nan z))) (sym (computed_is p n)) (finite_number (units_of (value_of p) n) (units_finite p n l N))

pub computed_finite : (p n : ℕ) → lawful? p ≡ true → n ≤ most_full_scale → Floats.float_is_finite (value_of (to_bits binary32 (computed p n))) ≡ true
computed_finite p n l N =
    ap Floats.float_is_finite (of_bits-to_bits binary32 (computed p n) (div-fits binary32 (mul binary32 (of_bits binary32 p) (of_int binary32 (pos n))) (of_bits binary32 1120403456)) ∙ computed_is p n) ∙ units_finite p n l N

pub computed_units : (p n : ℕ) → lawful? p ≡ true → 1 ≤ n → n ≤ most_full_scale → Some (to_bits binary32 (computed p n)) ≡ in_units p n
computed_units p n l L N =
    let a : leb 1 n ≡ true = le-leb 1 n L in
    let b : leb n most_full_scale ≡ true = le-leb n most_full_scale N in
    ap (λ (z : Float). Some (to_bits binary32 z)) (computed_is p n) ∙ rw (l, a, b) refl
