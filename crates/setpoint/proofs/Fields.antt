-- The three fields of a pattern, and the value that they stand for.
use Rattle.std.proofs.Common.{◌≡◌, ℕ, zero, suc, ◌+◌, ◌-◌, ◌*◌, ◌/◌, ◌%◌, ◌^◌, ◌<◌, Bool, false, eqb, leb, sym, refl, ap, ◌∙◌, subst, arith}
use lib.Bits.{bit_and}
use lib.Ieee.{Float, nan, inf, binary32, odd, of_fields, of_bits}
use lib.Ieee.Exact.{HasValue, odd_sign}
use Rattle.std.proofs.lemmas.Nat.{and_mask, field_of}
use Rattle.std.proofs.lemmas.Bool.{ne_eqb}
use Rattle.setpoint.specs.Value.{value_of}
use Rattle.setpoint.specs.Decoding.{Decodes}
use Rattle.setpoint.specs.declared.Binary32.TheVariants.{NotANumber, Infinite, Finite}

abbrev pub negative : ℕ → Bool
negative p = leb 2147483648 p

abbrev pub exponent : ℕ → ℕ
exponent p = bit_and (p / 8388608) 255

abbrev pub fraction : ℕ → ℕ
fraction p = bit_and p 8388607

pub fraction_is : (p : ℕ) → fraction p ≡ p % 8388608
fraction_is p = and_mask p 23

pub exponent_is : (p : ℕ) → exponent p ≡ p / 8388608 % 256
exponent_is p = and_mask (p / 8388608) 8

value_read : (p : ℕ) → value_of p ≡ of_fields binary32 (negative p) (exponent p) (fraction p)
unfolding of_bits
value_read p = rw (fraction_is p, exponent_is p, ← field_of p 8 23) refl

-- at a known exponent field
value_at : (p x : ℕ) → exponent p ≡ x → value_of p ≡ of_fields binary32 (negative p) x (fraction p)
value_at p x e = value_read p ∙ ap (λ (z : ℕ). of_fields binary32 (negative p) z (fraction p)) e

subnormal : (s : Bool) (t : ℕ) → of_fields binary32 s 0 t ≡ odd 24 s t 0 149
unfolding of_fields
subnormal s t = refl

normal : (s : Bool) (x t : ℕ) → 0 < x → x < 255 → of_fields binary32 s x t ≡ odd 24 s (8388608 + t) (x - 1) 149
unfolding of_fields
normal s zero t l h = absurd (let k : 0 < 0 = l in omega arith)
normal s (suc x) t l h =
    let n : eqb (suc x) 255 ≡ false = ne_eqb (suc x) 255 (omega arith) in
    let k : suc x - 1 ≡ x = omega arith in
    rw (n, k) refl

infinite : (s : Bool) → of_fields binary32 s 255 0 ≡ inf s
unfolding of_fields
infinite s = refl

not_a_number : (s : Bool) (t : ℕ) → (t ≡ 0 → ⊥) → of_fields binary32 s 255 t ≡ nan
unfolding of_fields
not_a_number s t h = let n : eqb t 0 ≡ false = ne_eqb t 0 h in rw n refl

pub decodes_subnormal : (p : ℕ) → exponent p ≡ 0 → Decodes (Finite (negative p) (fraction p) 0) (value_of p)
decodes_subnormal p e = (
  subst (λ (x : Float). HasValue x (negative p) (fraction p * 1) (2 ^ 149)) (sym (value_at p 0 e ∙ subnormal (negative p) (fraction p))) (odd_sign 24 (negative p) (fraction p) 0 149),
  omega (arith, fraction_is p),
  λ h. omega arith,
)

pub decodes_normal : (p : ℕ) → (exponent p ≡ 0 → ⊥) → (exponent p ≡ 255 → ⊥) → Decodes (Finite (negative p) (8388608 + fraction p) (exponent p - 1)) (value_of p)
decodes_normal p l h =
    let s = negative p in
    let q = 8388608 + fraction p in
    let k = exponent p - 1 in (
      subst (λ (x : Float). HasValue x s (q * 2 ^ k) (2 ^ 149)) (sym (value_read p ∙ normal s (exponent p) (fraction p) (omega arith) (omega (arith, exponent_is p)))) (odd_sign 24 s q k 149),
      omega (arith, fraction_is p),
      λ _. omega arith,
    )

pub decodes_infinite : (p : ℕ) → exponent p ≡ 255 → fraction p ≡ 0 → Decodes (Infinite (negative p)) (value_of p)
decodes_infinite p e f = value_at p 255 e ∙ ap (λ (t : ℕ). of_fields binary32 (negative p) 255 t) f ∙ infinite (negative p)

pub decodes_nan : (p : ℕ) → exponent p ≡ 255 → (fraction p ≡ 0 → ⊥) → Decodes NotANumber (value_of p)
decodes_nan p e f = value_at p 255 e ∙ not_a_number (negative p) (fraction p) f
