-- Bytes as capital hexadecimal text, two digits each, the high one first.
use Rattle.std.specs.Prelude.{ℕ, Bool, ◌+◌, ◌-◌, ◌*◌, ◌/◌, ◌%◌, if◌then◌else◌, ◌&&◌, List, [], ◌∷◌, Some, None, Option, is_some, nat_le, nat_lt, slice_index}

-- the characters of the digits
abbrev pub digit_0 : ℕ
digit_0 = 48

abbrev pub digit_9 : ℕ
digit_9 = 57

abbrev pub digit_A : ℕ
digit_A = 65

abbrev pub digit_F : ℕ
digit_F = 70

-- the digit of a number below 16: '0' to '9' and then 'A' to 'F'
abbrev pub digit_of : ℕ → ℕ
digit_of n = if nat_lt n 10 then digit_0 + n else digit_A + (n - 10)

abbrev pub hex_of : List ℕ → List ℕ
hex_of [] = []
hex_of (b ∷ bytes) = digit_of (b / 16) ∷ digit_of (b % 16) ∷ hex_of bytes

-- the number of a digit, if it is one
abbrev pub value_of : ℕ → Option ℕ
value_of c =
    if nat_le digit_0 c && nat_le c digit_9 then Some (c - digit_0)
    else if nat_le digit_A c && nat_le c digit_F then Some (c - digit_A + 10)
    else None

-- the byte of two digits, if they are
abbrev pub paired : Option ℕ → Option ℕ → Option ℕ
paired (Some high) (Some low) = Some (high * 16 + low)
paired (Some high) None = None
paired None low = None

abbrev pub byte_of : ℕ → ℕ → Option ℕ
byte_of high low = paired (value_of high) (value_of low)

-- whether a pair of digits is a byte
abbrev pub pair? : List ℕ → Bool
pair? pair = is_some (byte_of (slice_index pair 0) (slice_index pair 1))

-- a byte in front of the bytes of what follows
abbrev pub before : Option ℕ → Option (List ℕ) → Option (List ℕ)
before (Some b) (Some bytes) = Some (b ∷ bytes)
before (Some b) None = None
before None rest = None

-- the bytes of a text of digits, if it is one
abbrev pub bytes_of : List ℕ → Option (List ℕ)
bytes_of [] = Some []
bytes_of (high ∷ []) = None
bytes_of (high ∷ low ∷ text) = before (byte_of high low) (bytes_of text)
