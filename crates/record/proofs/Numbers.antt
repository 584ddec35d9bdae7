-- A number and its bytes.
use Rattle.std.proofs.Common.{◌≡◌, ℕ, zero, suc, ◌+◌, ◌*◌, ◌/◌, ◌%◌, ◌^◌, ◌<◌, ◌≤◌, Bool, true, false, cond, List, [], ◌∷◌, get_or, refl, arith}
use native.Mathlib.Nat.{div-div-eq-div-mul}
use Rattle.std.proofs.lemmas.Nat.{div-add-mod'}
use Rattle.std.proofs.lemmas.Bool.Decides.{nat_tests}
use Rattle.std.specs.List.{AllByRecursion}
use Rattle.record.specs.Bytes.{bytes24, bytes32, number24, number32, bit?}

abbrev pub Byte : ℕ → Type 0
Byte b = b < 256

pub byte_at : (bytes : List ℕ) (i : ℕ) → AllByRecursion Byte bytes → get_or bytes i 0 < 256
byte_at [] i h = omega arith
byte_at (b ∷ bytes) zero h = h.0
byte_at (b ∷ bytes) (suc i) h = byte_at bytes i h.1

-- one byte of n above m
one_more : (n m : ℕ) → n / (m * 256) * 256 + n / m % 256 ≡ n / m
one_more n m = rw (← div-div-eq-div-mul n m 256) (div-add-mod' (n / m) 256)

pub back24 : (n : ℕ) → n < 2 ^ 24 → number24 (bytes24 n) 0 ≡ n
back24 n h = omega arith

pub back32 : (n : ℕ) → n < 2 ^ 32 → number32 (bytes32 n) 0 ≡ n
back32 n h = omega (arith, one_more n 1, one_more n 256, one_more n 65536)

module _ (a b c d : ℕ) (A : a < 256) (B : b < 256) (C : c < 256) (D : d < 256) where
  again24 : bytes24 (number24 (b ∷ c ∷ d ∷ []) 0) ≡ b ∷ c ∷ d ∷ []
  again24 =
      let n = number24 (b ∷ c ∷ d ∷ []) 0 in
      let p : n / 65536 % 256 ≡ b = omega arith in
      let q : n / 256 % 256 ≡ c = omega arith in
      let r : n % 256 ≡ d = omega arith in
      cc

  again32 : bytes32 (number32 (a ∷ b ∷ c ∷ d ∷ []) 0) ≡ a ∷ b ∷ c ∷ d ∷ []
  again32 =
      let n = number32 (a ∷ b ∷ c ∷ d ∷ []) 0 in
      let o : n / 16777216 % 256 ≡ a = omega arith in
      let p : n / 65536 % 256 ≡ b = omega arith in
      let q : n / 256 % 256 ≡ c = omega arith in
      let r : n % 256 ≡ d = omega arith in
      cc

module _ (bytes : List ℕ) (all : AllByRecursion Byte bytes) (at : ℕ) where
  pub below24 : number24 bytes at < 2 ^ 24
  below24 = omega (arith, byte_at bytes at all, byte_at bytes (at + 1) all, byte_at bytes (at + 2) all)

  pub below32 : number32 bytes at < 2 ^ 32
  below32 = omega (arith, byte_at bytes at all, byte_at bytes (at + 1) all, byte_at bytes (at + 2) all, byte_at bytes (at + 3) all)

  pub bytes24_number : bytes24 (number24 bytes at) ≡ get_or bytes at 0 ∷ get_or bytes (at + 1) 0 ∷ get_or bytes (at + 2) 0 ∷ []
  bytes24_number = again24 0 (get_or bytes at 0) (get_or bytes (at + 1) 0) (get_or bytes (at + 2) 0) (omega arith) (byte_at bytes at all) (byte_at bytes (at + 1) all) (byte_at bytes (at + 2) all)

  pub bytes32_number : bytes32 (number32 bytes at) ≡ get_or bytes at 0 ∷ get_or bytes (at + 1) 0 ∷ get_or bytes (at + 2) 0 ∷ get_or bytes (at + 3) 0 ∷ []
  bytes32_number = again32 (get_or bytes at 0) (get_or bytes (at + 1) 0) (get_or bytes (at + 2) 0) (get_or bytes (at + 3) 0) (byte_at bytes at all) (byte_at bytes (at + 1) all) (byte_at bytes (at + 2) all) (byte_at bytes (at + 3) all)

-- ---- two flags in a byte

pub low_flag : (changed key : Bool) → bit? (cond changed 1 0 + cond key 2 0) 0 ≡ changed
low_flag true true = refl
low_flag true false = refl
low_flag false true = refl
low_flag false false = refl

pub high_flag : (changed key : Bool) → bit? (cond changed 1 0 + cond key 2 0) 1 ≡ key
high_flag true true = refl
high_flag true false = refl
high_flag false true = refl
high_flag false false = refl

pub flags_limit : (changed key : Bool) → cond changed 1 0 + cond key 2 0 ≤ 3
flags_limit true true = omega arith
flags_limit true false = omega arith
flags_limit false true = omega arith
flags_limit false false = omega arith

pub flags_again : (n : ℕ) → n ≤ 3 → cond (bit? n 0) 1 0 + cond (bit? n 1) 2 0 ≡ n
flags_again n h = grind (arith, nat_tests)
