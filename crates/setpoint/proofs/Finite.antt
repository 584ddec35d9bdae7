-- What a finite value is as a setpoint, by its sign and size.
use Rattle.std.proofs.Common.{◌≡◌, ℕ, ◌+◌, ◌*◌, ◌^◌, ◌<◌, ◌≤◌, Bool, true, false, cond, ◌&&◌, ltb, ◌⊎◌, ℤ, Some, None, Option, sym, refl, ap, ◌∙◌, inl, inr, mul_assoc, eq-zero-or-pos, mul-pos, zero-mul, mul_right_comm, arith, pow_pos}
use lib.Ieee.{Float, nan, inf, fin, is_nan, lt, up, down}
use lib.Ieee.Exact.{HasValue}
use lib.Ieee.Fits.{down_pos}
use Rattle.std.specs.Float.{float_is_finite, ratio_ceil}
use Rattle.std.proofs.lemmas.Bool.{and_left, and_right, lt-ltb, le-ltb}
use Rattle.setpoint.specs.Numbers.{parts_of_a_percent}
use Rattle.setpoint.specs.declared.Setpoint.{Setpoint}
use Rattle.setpoint.specs.declared.Setpoint.TheVariants.{NotANumber, BelowZero, Infinite, Load, Overload}
use Rattle.setpoint.specs.Load.{fitting, load_of}
use Rattle.setpoint.specs.Setpoints.{setpoint_of}
use Rattle.setpoint.specs.Value.{nought}
use Rattle.setpoint.proofs.Ceiling.{raised_same}

below_zero : (s : Bool) (m : ℕ) (e : ℤ) → lt (fin s m e) nought ≡ (s && ltb 0 (m * up e))
unfolding lt
below_zero true m e = let z : m * up e * 1 + 0 * 1 * down e ≡ m * up e = omega arith in rw z
below_zero false m e = le-ltb (m * up e * 1) (0 * 1 * down e) (omega arith)

-- the sign of a size tells whether its significand is 0
same_sign : (a b c d : ℕ) → 0 < b → 0 < d → a * b ≡ c * d → ltb 0 a ≡ ltb 0 c
same_sign a b c d B D e = elim (eq-zero-or-pos c) [
  | inl z ↦
      let n : a * b ≡ 0 = e ∙ ap (λ (k : ℕ). k * d) z ∙ zero-mul d in
      elim (eq-zero-or-pos a) [ inl y ↦ rw (y, z) | inr p ↦ absurd (let k : 0 < a * b = mul-pos p B in omega arith) ]
  | inr p ↦ elim (eq-zero-or-pos a) [
    | inl y ↦ absurd (let k : 0 < c * d = mul-pos p D in let n : a * b ≡ 0 = ap (λ (k : ℕ). k * b) y ∙ zero-mul b in omega arith)
    | inr q ↦ lt-ltb 0 a q ∙ sym (lt-ltb 0 c p)
  ]
]

-- ---- a value with the sign s and the size q * 2 ^ k / 2 ^ 149

abbrev pub load_at : ℕ → ℕ → ℕ
load_at q k = ratio_ceil (q * 2 ^ k * parts_of_a_percent) (2 ^ 149)

abbrev pub loaded : Option ℕ → Setpoint
loaded (Some n) = Load n
loaded None = Overload

loaded_fitting : (n : ℕ) → loaded (fitting n) ≡ cond (ltb n (2 ^ 32)) (Load n) Overload
loaded_fitting n = go (ltb n (2 ^ 32))
  where
    go : (b : Bool) → loaded (cond b (Some n) None) ≡ cond b (Load n) Overload
    go true = refl
    go false = refl

pub finite_load : (x : Float) (s : Bool) (q k : ℕ) → HasValue x s (q * 2 ^ k) (2 ^ 149) → load_of x ≡ load_at q k
finite_load nan s q k h = absurd h
finite_load (inf t) s q k h = absurd h
finite_load (fin t m e) s q k h =
    raised_same (m * up e * parts_of_a_percent) (down e) (q * 2 ^ k * parts_of_a_percent) (2 ^ 149) (down_pos e) (omega arith)
    (mul_right_comm (m * up e) parts_of_a_percent (2 ^ 149) ∙ ap (λ (z : ℕ). z * parts_of_a_percent) h.1 ∙ mul_right_comm (q * 2 ^ k) (down e) parts_of_a_percent)

pub finite_below : (x : Float) (s : Bool) (q k : ℕ) → HasValue x s (q * 2 ^ k) (2 ^ 149) → lt x nought ≡ (s && ltb 0 q)
finite_below nan s q k h = absurd h
finite_below (inf t) s q k h = absurd h
finite_below (fin t m e) s q k h =
    below_zero t m e
    ∙ ap (λ (b : Bool). b && ltb 0 (m * up e)) h.0
    ∙ ap (λ (b : Bool). s && b) (same_sign (m * up e) (2 ^ 149) q (2 ^ k * down e) (omega arith) (mul-pos (pow_pos k) (down_pos e)) (h.1 ∙ mul_assoc q (2 ^ k) (down e)))

-- what is finite is a setpoint by two tests
finite_kind : (x : Float) (s : Bool) (a c : ℕ) → HasValue x s a c → setpoint_of x ≡ cond (lt x nought) BelowZero (cond (ltb (load_of x) (2 ^ 32)) (Load (load_of x)) Overload)
unfolding is_nan float_is_finite
finite_kind nan s a c h = absurd h
finite_kind (inf t) s a c h = absurd h
finite_kind (fin t m e) s a c h = refl

finite_setpoint : (x : Float) (s : Bool) (q k : ℕ) → HasValue x s (q * 2 ^ k) (2 ^ 149) → setpoint_of x ≡ cond (s && ltb 0 q) BelowZero (loaded (fitting (load_at q k)))
finite_setpoint x s q k h =
    finite_kind x s (q * 2 ^ k) (2 ^ 149) h
    ∙ ap (λ (b : Bool). cond b BelowZero (cond (ltb (load_of x) (2 ^ 32)) (Load (load_of x)) Overload)) (finite_below x s q k h)
    ∙ ap (λ (y : Setpoint). cond (s && ltb 0 q) BelowZero y) (ap (λ (n : ℕ). cond (ltb n (2 ^ 32)) (Load n) Overload) (finite_load x s q k h) ∙ sym (loaded_fitting (load_at q k)))

pub negative_setpoint : (x : Float) (s : Bool) (q k : ℕ) → HasValue x s (q * 2 ^ k) (2 ^ 149) → s ≡ true → 0 < q → BelowZero ≡ setpoint_of x
negative_setpoint x s q k h e p = let b : ltb 0 q ≡ true = lt-ltb 0 q p in rw (finite_setpoint x s q k h, e, b)

pub loaded_setpoint : (x : Float) (s : Bool) (q k : ℕ) (o : Option ℕ) → HasValue x s (q * 2 ^ k) (2 ^ 149) → ((s ≡ true) × (q ≤ 0)) ⊎ (s ≡ false) → o ≡ fitting (load_at q k) → loaded o ≡ setpoint_of x
loaded_setpoint x s q k o h w e = ap loaded e ∙ sym (finite_setpoint x s q k h ∙ ap (λ (b : Bool). cond b BelowZero (loaded (fitting (load_at q k)))) (no w))
  where
    no : ((s ≡ true) × (q ≤ 0)) ⊎ (s ≡ false) → (s && ltb 0 q) ≡ false
    no (inl z) = and_right s (ltb 0 q) (le-ltb 0 q z.1)
    no (inr f) = and_left s (ltb 0 q) f

-- ---- a value that is not finite

pub nan_setpoint : (x : Float) → x ≡ nan → NotANumber ≡ setpoint_of x
unfolding is_nan
nan_setpoint x e = rw e refl

pub infinite_setpoint : (x : Float) (s t : Bool) → x ≡ inf s → s ≡ t → cond t BelowZero Infinite ≡ setpoint_of x
unfolding is_nan lt float_is_finite
infinite_setpoint x s true e k = rw (e, k) refl
infinite_setpoint x s false e k = rw (e, k) refl
