-- A word of a table: '-' for no bytes, else the digits of at least one.
use Rattle.std.specs.Prelude.{ℕ, ◌+◌, ◌*◌, if◌then◌else◌, List, [], ◌∷◌, length, Some, None, Ok, Err, Option, Result, ◌==◌}
use Rattle.std.specs.Option.{option_map}
use Rattle.tables.specs.declared.words.WordFault.{WordFault}
use Rattle.tables.specs.declared.words.WordFault.TheVariants.{NotPattern}
use Rattle.hexdigits.specs.Hex.{hex_of, bytes_of, before}

-- '-'
abbrev pub dash : ℕ
dash = 45

abbrev pub word_of : List ℕ → List ℕ
word_of [] = dash ∷ []
word_of (b ∷ bytes) = hex_of (b ∷ bytes)

-- the bytes of a word, if it is one
abbrev pub bytes_at : List ℕ → Option (List ℕ)
bytes_at [] = None
bytes_at (c ∷ []) = if c == dash then Some [] else None
bytes_at (high ∷ low ∷ text) = bytes_of (high ∷ low ∷ text)

-- an empty word is no bytes too, as '-' is
abbrev pub maybe_empty_at : List ℕ → Option (List ℕ)
maybe_empty_at [] = Some []
maybe_empty_at (c ∷ word) = bytes_at (c ∷ word)

-- the number of bytes, the highest first, after those of n
abbrev pub number_after : ℕ → List ℕ → ℕ
number_after n [] = n
number_after n (b ∷ bytes) = number_after (n * 256 + b) bytes

abbrev pub pattern_of : Option (List ℕ) → Result ℕ WordFault
pattern_of (Some bytes) = Ok (number_after 0 bytes)
pattern_of None = Err NotPattern

-- how many digits 32 bits have
abbrev pub pattern_digits : ℕ
pattern_digits = 8

-- the 32 bits of a word: eight digits, the highest first
abbrev pub pattern_at : List ℕ → Result ℕ WordFault
pattern_at word =
    if length word == pattern_digits then pattern_of (bytes_of word) else Err NotPattern

-- of four bytes, each if it is there
abbrev pub pattern_joined : Option ℕ → Option ℕ → Option ℕ → Option ℕ → Option ℕ
pattern_joined first second third fourth =
    option_map (number_after 0) (before first (before second (before third (before fourth (Some [])))))
