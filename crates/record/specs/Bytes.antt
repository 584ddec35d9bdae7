-- Numbers in bytes, the most significant byte first.
use Rattle.std.specs.Prelude.{ℕ, ◌+◌, ◌*◌, ◌/◌, ◌%◌, ◌^◌, Bool, List, [], ◌∷◌, ◌==◌, slice_index}
use Rattle.std.specs.List.{list_all}

-- The low 24 bits of a number, in three bytes.
abbrev pub bytes24 : ℕ → List ℕ
bytes24 n = (n / 65536 % 256) ∷ (n / 256 % 256) ∷ (n % 256) ∷ []

-- A number of 32 bits, in four bytes.
abbrev pub bytes32 : ℕ → List ℕ
bytes32 n = (n / 16777216 % 256) ∷ bytes24 n

-- The number in the three bytes from a place on.
abbrev pub number24 : List ℕ → ℕ → ℕ
number24 bytes at = slice_index bytes at * 65536 + slice_index bytes (at + 1) * 256 + slice_index bytes (at + 2)

-- The number in the four bytes from a place on.
abbrev pub number32 : List ℕ → ℕ → ℕ
number32 bytes at =
    slice_index bytes at * 16777216 + slice_index bytes (at + 1) * 65536
    + slice_index bytes (at + 2) * 256 + slice_index bytes (at + 3)

-- Whether a bit of a number is 1; bit 0 is the least significant.
abbrev pub bit? : ℕ → ℕ → Bool
bit? n index = n / 2 ^ index % 2 == 1

-- Whether all bytes are 0.
abbrev pub zeros? : List ℕ → Bool
zeros? = list_all (λ b. b == 0)
