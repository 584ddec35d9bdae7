-- `raised a b`, a / b rounded up, is the least n with a ≤ n * b.
use Rattle.std.proofs.Common.{◌≡◌, ℕ, ◌+◌, ◌-◌, ◌*◌, ◌<◌, ◌≤◌, sym, le_trans, le_of_eq, mul-le-mul_right, div-lt_iff_lt-mul, add-mul, le_antisymm, mul-le-mul_left, mul_right_comm, le_of_mul-le-mul_right, arith}
use Rattle.std.specs.Float.{ratio_ceil}

pub raised_covers : (a b : ℕ) → 0 < b → a ≤ ratio_ceil a b * b
raised_covers a b B =
    let h : a + b - 1 < (ratio_ceil a b + 1) * b = (div-lt_iff_lt-mul B).0 (omega arith) in
    omega (arith, add-mul (ratio_ceil a b) 1 b)

pub raised_least : (a b n : ℕ) → 0 < b → a ≤ n * b → ratio_ceil a b ≤ n
raised_least a b n B h =
    let l : ratio_ceil a b < n + 1 = (div-lt_iff_lt-mul B).1 (omega (arith, add-mul n 1 b)) in
    omega arith

pub raised_le : (a b : ℕ) → 0 < b → ratio_ceil a b ≤ a
raised_le a b B = raised_least a b a B (omega (arith, mul-le-mul_left a B))

raised_mono : (a b c d : ℕ) → 0 < b → 0 < d → a * d ≤ c * b → ratio_ceil a b ≤ ratio_ceil c d
raised_mono a b c d B D h =
    let n = ratio_ceil c d in
    raised_least a b n B (le_of_mul-le-mul_right (le_trans h (le_trans (mul-le-mul_right b (raised_covers c d D)) (le_of_eq (mul_right_comm n d b)))) D)

-- equal fractions are rounded up alike
pub raised_same : (a b c d : ℕ) → 0 < b → 0 < d → a * d ≡ c * b → ratio_ceil a b ≡ ratio_ceil c d
raised_same a b c d B D e = le_antisymm (raised_mono a b c d B D (le_of_eq e)) (raised_mono c d a b D B (le_of_eq (sym e)))

pub raised_whole : (n : ℕ) → ratio_ceil n 1 ≡ n
raised_whole n = omega arith
