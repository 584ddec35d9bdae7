-- A significand q times 2 ^ x, in 1,024ths of 2 ^ 149, rounded up: by a shift to the left from x = load_exponent on, and by a division below.
use Rattle.std.proofs.Common.{◌≡◌, ℕ, ◌+◌, ◌-◌, ◌*◌, ◌/◌, ◌%◌, ◌^◌, ◌<◌, ◌≤◌, min, ltb, Some, None, sym, ap, ◌∙◌, subst, inl, inr, le_trans, mul_assoc, eq-zero-or-pos, mul-le-mul, le_antisymm, mul-le-mul_left, zero-mul, mul_right_comm, mul_left_comm, arith, pow_pos, pow_mono, pow-add}
use Rattle.std.specs.Float.{ratio_ceil}
use Rattle.std.proofs.lemmas.Nat.{one_shl, shl_below, shl_whole}
use Rattle.std.proofs.lemmas.Bool.{cases_lt, cond-true, cond-false, lt-ltb, le-ltb}
use Rattle.setpoint.specs.Load.{fitting}
use Rattle.setpoint.specs.Numbers.{parts_of_a_percent}
use Rattle.setpoint.proofs.Ceiling.{raised_covers, raised_le, raised_least, raised_same, raised_whole}

-- the exponents from which on a load is found by a shift to the left, and needs more than 32 bits
abbrev pub load_exponent : ℕ
load_exponent = 139

abbrev pub overload_exponent : ℕ
overload_exponent = load_exponent + 9

pub raised_up : (q j : ℕ) → ratio_ceil (q * 2 ^ (load_exponent + j) * parts_of_a_percent) (2 ^ 149) ≡ q * 2 ^ j
raised_up q j =
    let e : q * 2 ^ (load_exponent + j) ≡ 2 ^ load_exponent * (q * 2 ^ j) = ap (λ (z : ℕ). q * z) (pow-add 2 load_exponent j) ∙ mul_left_comm q (2 ^ load_exponent) (2 ^ j) in
    raised_same (q * 2 ^ (load_exponent + j) * parts_of_a_percent) (2 ^ 149) (q * 2 ^ j) 1 (omega arith) (omega arith) (omega arith) ∙ raised_whole (q * 2 ^ j)

pub raised_down : (q x d : ℕ) → x + d ≡ load_exponent → ratio_ceil (q * 2 ^ x * parts_of_a_percent) (2 ^ 149) ≡ ratio_ceil q (2 ^ d)
raised_down q x d h =
    let p : 2 ^ x * 2 ^ d ≡ 2 ^ load_exponent = rw (← pow-add 2 x d, h) in
    let e : q * 2 ^ x * 2 ^ d ≡ q * 2 ^ load_exponent = mul_assoc q (2 ^ x) (2 ^ d) ∙ ap (λ (z : ℕ). q * z) p in
    raised_same (q * 2 ^ x * parts_of_a_percent) (2 ^ 149) q (2 ^ d) (omega arith) (pow_pos d) (mul_right_comm (q * 2 ^ x) parts_of_a_percent (2 ^ d) ∙ omega arith)

-- a divisor beyond every digit of q leaves 0 of 0 and 1 of any other
raised_far : (q d : ℕ) → q < 2 ^ 24 → 24 ≤ d → ratio_ceil q (2 ^ 24) ≡ ratio_ceil q (2 ^ d)
raised_far q d Q D =
    let far : 2 ^ 24 ≤ 2 ^ d = pow_mono D in
    le_antisymm
    (elim (eq-zero-or-pos q) [
      | inl z ↦ le_trans (raised_least q (2 ^ 24) 0 (omega arith) (omega arith)) (omega arith)
      | inr p ↦
          let n = ratio_ceil q (2 ^ d) in
          let c : q ≤ n * 2 ^ d = raised_covers q (2 ^ d) (pow_pos d) in
          elim (eq-zero-or-pos n) [
            | inl z ↦ absurd (let k : n * 2 ^ d ≡ 0 = ap (λ (z : ℕ). z * 2 ^ d) z ∙ zero-mul (2 ^ d) in omega arith)
            | inr n_pos ↦ le_trans (raised_least q (2 ^ 24) 1 (omega arith) (omega arith)) n_pos
          ]
    ])
    (raised_least q (2 ^ d) (ratio_ceil q (2 ^ 24)) (pow_pos d) (le_trans (raised_covers q (2 ^ 24) (omega arith)) (mul-le-mul_left (ratio_ceil q (2 ^ 24)) far)))

pub raised_near : (q d : ℕ) → q < 2 ^ 24 → ratio_ceil q (2 ^ min d 24) ≡ ratio_ceil q (2 ^ d)
raised_near q d Q = elim (cases_lt d 24) [
  | inl l ↦ let e : min d 24 ≡ d = omega arith in rw e
  | inr g ↦ let e : min d 24 ≡ 24 = omega arith in rw e (raised_far q d Q g)
]

-- ---- the three ways in which the load of q * 2 ^ (x - 149) is found

small : (n : ℕ) → n < 2 ^ 32 → Some n ≡ fitting n
small n h = sym (cond-true (ltb n (2 ^ 32)) (Some n) None (lt-ltb n (2 ^ 32) h))

pub by_division : (q x d : ℕ) → q < 2 ^ 24 → x < load_exponent → d ≡ min (load_exponent - x) 24 → Some ((q + (1 * 2 ^ d) % 2 ^ 32 - 1) / 2 ^ d) ≡ fitting (ratio_ceil (q * 2 ^ x * parts_of_a_percent) (2 ^ 149))
by_division q x d Q X D =
    let n = ratio_ceil (q * 2 ^ x * parts_of_a_percent) (2 ^ 149) in
    let down : n ≡ ratio_ceil q (2 ^ (load_exponent - x)) = raised_down q x (load_exponent - x) (omega arith) in
    let e : ratio_ceil q (2 ^ d) ≡ n = rw D (raised_near q (load_exponent - x) Q) ∙ sym down in
    let le : ratio_ceil q (2 ^ (load_exponent - x)) ≤ q = raised_le q (2 ^ (load_exponent - x)) (pow_pos (load_exponent - x)) in
    rw (one_shl d 32 (omega arith)) (ap Some e ∙ small n (omega arith))

pub by_shift : (q x : ℕ) → q < 2 ^ 24 → load_exponent ≤ x → x < overload_exponent → Some ((q * 2 ^ (x - load_exponent)) % 2 ^ 32) ≡ fitting (ratio_ceil (q * 2 ^ x * parts_of_a_percent) (2 ^ 149))
by_shift q x Q l h =
    let j = x - load_exponent in
    let k : load_exponent + j ≡ x = omega arith in
    let e : ratio_ceil (q * 2 ^ x * parts_of_a_percent) (2 ^ 149) ≡ q * 2 ^ j = subst (λ (z : ℕ). ratio_ceil (q * 2 ^ z * parts_of_a_percent) (2 ^ 149) ≡ q * 2 ^ j) k (raised_up q j) in
    let b : q * 2 ^ j < 2 ^ (24 + j) = shl_below q 24 j Q in
    let t : 2 ^ (24 + j) ≤ 2 ^ 32 = pow_mono {i = 24 + j} {j = 32} (omega arith) in
    rw (shl_whole q 24 j 32 Q (omega arith), e) (small (q * 2 ^ j) (omega arith))

pub past_32_bits : (q x : ℕ) → 2 ^ 23 ≤ q → overload_exponent ≤ x → None ≡ fitting (ratio_ceil (q * 2 ^ x * parts_of_a_percent) (2 ^ 149))
past_32_bits q x Q h =
    let j = x - load_exponent in
    let k : load_exponent + j ≡ x = omega arith in
    let e : ratio_ceil (q * 2 ^ x * parts_of_a_percent) (2 ^ 149) ≡ q * 2 ^ j = subst (λ (z : ℕ). ratio_ceil (q * 2 ^ z * parts_of_a_percent) (2 ^ 149) ≡ q * 2 ^ j) k (raised_up q j) in
    let t : 2 ^ 9 ≤ 2 ^ j = pow_mono {i = 9} {j = j} (omega arith) in
    let b : 2 ^ 23 * 2 ^ 9 ≤ q * 2 ^ j = mul-le-mul Q t in
    rw e (sym (cond-false (ltb (q * 2 ^ j) (2 ^ 32)) (Some (q * 2 ^ j)) None (le-ltb (q * 2 ^ j) (2 ^ 32) b)))
