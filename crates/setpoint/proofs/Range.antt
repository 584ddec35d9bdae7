-- The lawful patterns are the numbers from 00000000 to 42C80000 hexadecimal.
use Rattle.std.proofs.Common.{◌≡◌, ℕ, ◌+◌, ◌-◌, ◌*◌, ◌^◌, ◌<◌, ◌≤◌, Bool, true, false, cond, not, ◌&&◌, eqb, ltb, leb, is_ok, Ok, Err, sym, refl, ap, ◌∙◌, inl, inr, le_of_lt, mul-le-mul, arith, pow_mono}
use lib.Ieee.{Float, nan, inf, fin, is_nan, lt, le}
use lib.Ieee.Exact.{HasValue}
use Rattle.std.specs.Float.{float_is_finite}
use Rattle.std.proofs.lemmas.Bool.{cases_eq, cases_order, lt-leb}
use Rattle.std.proofs.lemmas.Bool.Decides.{nat_tests}
use Rattle.setpoint.specs.Numbers.{full_load, minus_zero}
use Rattle.setpoint.specs.declared.SetpointRefusal.TheVariants.{AboveCeiling, BelowZero}
use Rattle.setpoint.specs.Lawful.{lawful?}
use Rattle.setpoint.specs.Load.{load_of}
use Rattle.setpoint.specs.Refusals.{admitted_under}
use Rattle.setpoint.specs.Value.{value_of, nought, hundred}
use Rattle.setpoint.proofs.Fields.{negative, exponent, fraction, exponent_is, fraction_is, decodes_subnormal, decodes_normal, decodes_infinite, decodes_nan}
use Rattle.setpoint.proofs.Finite.{finite_below, finite_load, load_at}
use Rattle.setpoint.proofs.Percents.{at_most, load_at_most, hundred_admits}

-- ---- a value with the sign s and the size q * 2 ^ k / 2 ^ 149

admits_finite : (x : Float) (s : Bool) (a c : ℕ) → HasValue x s a c → is_ok (admitted_under 100 x) ≡ (not (lt x nought) && not (ltb full_load (load_of x)))
unfolding is_nan float_is_finite
admits_finite nan s a c h = absurd h
admits_finite (inf t) s a c h = absurd h
admits_finite (fin t m e) s a c h = go (lt (fin t m e) nought) (ltb full_load (load_of (fin t m e)))
  where
    go : (b o : Bool) → is_ok (cond b (Err BelowZero) (cond o (Err AboveCeiling) (Ok (load_of (fin t m e))))) ≡ (not b && not o)
    go true o = refl
    go false true = refl
    go false false = refl

percent_finite : (x : Float) (s : Bool) (q k : ℕ) → HasValue x s (q * 2 ^ k) (2 ^ 149) → (le nought x && le x hundred) ≡ (not (s && ltb 0 q) && not (ltb full_load (load_at q k)))
percent_finite x s q k h =
    hundred_admits x
    ∙ admits_finite x s (q * 2 ^ k) (2 ^ 149) h
    ∙ ap (λ (b : Bool). not b && not (ltb full_load (load_of x))) (finite_below x s q k h)
    ∙ ap (λ (n : ℕ). not (s && ltb 0 q) && not (ltb full_load n)) (finite_load x s q k h)

-- ---- the patterns from 00000000 to 42C80000 hexadecimal

lawful_finite : (p q k : ℕ) → HasValue (value_of p) (negative p) (q * 2 ^ k) (2 ^ 149)
    → (p < 2 ^ 31 → load_at q k ≤ full_load → p ≤ 0x42c8_0000) → (p ≤ 0x42c8_0000 → load_at q k ≤ full_load) → (2 ^ 31 < p → 0 < q)
    → leb p 0x42c8_0000 ≡ lawful? p
lawful_finite p q k h above below sign =
    let n = load_at q k in
    go n above below ∙ ap (λ (b : Bool). b && not (eqb p minus_zero)) (sym (percent_finite (value_of p) (negative p) q k h))
  where
    go : (n : ℕ) → (p < 2 ^ 31 → n ≤ full_load → p ≤ 0x42c8_0000) → (p ≤ 0x42c8_0000 → n ≤ full_load)
        → leb p 0x42c8_0000 ≡ ((not (negative p && ltb 0 q) && not (ltb full_load n)) && not (eqb p minus_zero))
    go n above below = grind (arith, nat_tests)

lawful_other : (p : ℕ) (x : Float) → value_of p ≡ x → is_ok (admitted_under 100 x) ≡ false → 0x42c8_0000 < p → leb p 0x42c8_0000 ≡ lawful? p
lawful_other p x e refused h =
    lt-leb p 0x42c8_0000 h
    ∙ sym (ap (λ (b : Bool). b && not (eqb p minus_zero)) (hundred_admits (value_of p) ∙ ap (λ (z : Float). is_ok (admitted_under 100 z)) e ∙ refused))

infinite_refused : (s : Bool) → is_ok (admitted_under 100 (inf s)) ≡ false
unfolding is_nan lt float_is_finite
infinite_refused true = refl
infinite_refused false = refl

nan_refused : is_ok (admitted_under 100 nan) ≡ false
unfolding is_nan
nan_refused = refl

-- patterns without a sign are in the order of their sizes
size_at_most : (q k : ℕ) → q < 2 ^ 24 → 2 ^ 23 ≤ q → (q * 2 ^ k ≤ 100 * 2 ^ 149 → k * 2 ^ 23 + q ≤ 0x42c8_0000) × (k * 2 ^ 23 + q ≤ 0x42c8_0000 → q * 2 ^ k ≤ 100 * 2 ^ 149)
size_at_most q k Q L = elim (cases_order k 132) [
  | inl e ↦ rw e (λ h. omega arith, λ h. omega arith)
  | inr o ↦ elim o [
    | inl l ↦
        let b : q * 2 ^ k ≤ 2 ^ 24 * 2 ^ 131 = mul-le-mul (le_of_lt Q) (pow_mono {i = k} {j = 131} (omega arith)) in
        (λ h. omega arith, λ h. omega arith)
    | inr g ↦
        let b : 2 ^ 23 * 2 ^ 133 ≤ q * 2 ^ k = mul-le-mul L (pow_mono {i = 133} {j = k} (omega arith)) in
        (λ h. omega arith, λ h. omega arith)
  ]
]

pub lawful_range : (p : ℕ) → p < 2 ^ 32 → leb p 0x42c8_0000 ≡ lawful? p
lawful_range p P = elim (cases_eq (exponent p) 0) [
  | inl z ↦
      let t = fraction p in
      lawful_finite p t 0 (decodes_subnormal p z).0
      (λ l h. omega (arith, exponent_is p, fraction_is p))
      (λ _. load_at_most (t * 1) (2 ^ 149) (omega arith) (omega (arith, fraction_is p)))
      (λ h. omega (arith, exponent_is p, fraction_is p))
  | inr nz ↦ elim (cases_eq (exponent p) 255) [
    | inl e ↦ elim (cases_eq (fraction p) 0) [
      | inl f ↦ lawful_other p (inf (negative p)) (decodes_infinite p e f) (infinite_refused (negative p)) (omega (arith, exponent_is p))
      | inr f ↦ lawful_other p nan (decodes_nan p e f) nan_refused (omega (arith, exponent_is p))
    ]
    | inr ne ↦
        let q = 8388608 + fraction p in
        let k = exponent p - 1 in
        let d = decodes_normal p nz ne in
        let o = size_at_most q k d.1 (omega arith) in
        lawful_finite p q k d.0
        (λ l h. omega (arith, o.0 (at_most (q * 2 ^ k) (2 ^ 149) (omega arith) h), exponent_is p, fraction_is p))
        (λ h. load_at_most (q * 2 ^ k) (2 ^ 149) (omega arith) (o.1 (omega (arith, exponent_is p, fraction_is p))))
        (λ _. omega arith)
  ]
]
