-- Packed text: four letters of six bits in three bytes.
use Rattle.std.specs.Prelude.{◌≡◌, ℕ, ◌+◌, ◌-◌, ◌*◌, ◌/◌, ◌%◌, Bool, true, ◌&&◌, List, [], ◌∷◌, length, ◌==◌, nat_le, slice_index, Result}
use Rattle.std.specs.List.{list_all}
use Rattle.refusals.specs.Filling.{Fills}
use Rattle.text.specs.Groups.{in_groups}

-- the letters that packed text can hold
abbrev pub first_letter : ℕ
first_letter = 0x20

abbrev pub last_letter : ℕ
last_letter = 0x5f

abbrev pub letter? : ℕ → Bool
letter? l = nat_le first_letter l && nat_le l last_letter

abbrev pub letters? : List ℕ → Bool
letters? = list_all letter?

-- a text in form: letters only, in groups of four
abbrev pub text? : List ℕ → Bool
text? t = length t % 4 == 0 && letters? t

-- packed bytes in form: in groups of three
abbrev pub packed? : List ℕ → Bool
packed? p = length p % 3 == 0

-- the six low bits of a letter
abbrev pub six_bits : ℕ → ℕ
six_bits l = l % 64

-- the letter of six bits: its bit 6 is the complement of its bit 5
abbrev pub letter_of : ℕ → ℕ
letter_of v = v + 64 * (1 - v / 32)

-- the 24 bits of four letters, the first letter highest
abbrev pub bits_of_letters : List ℕ → ℕ
bits_of_letters t =
    ((six_bits (slice_index t 0) * 64 + six_bits (slice_index t 1)) * 64 + six_bits (slice_index t 2)) * 64
    + six_bits (slice_index t 3)

-- the 24 bits of three bytes, the first byte highest
abbrev pub bits_of_bytes : List ℕ → ℕ
bits_of_bytes p = (slice_index p 0 * 256 + slice_index p 1) * 256 + slice_index p 2

abbrev pub three_bytes : ℕ → List ℕ
three_bytes g = g / 65536 ∷ g / 256 % 256 ∷ g % 256 ∷ []

abbrev pub four_letters : ℕ → List ℕ
four_letters g =
    letter_of (g / 262144) ∷ letter_of (g / 4096 % 64) ∷ letter_of (g / 64 % 64) ∷ letter_of (g % 64) ∷ []

-- a text packed: three bytes for each four letters
abbrev pub packed : List ℕ → List ℕ
packed t = in_groups 4 (λ g. three_bytes (bits_of_letters g)) t

-- packed bytes read as text: four letters for each three bytes
abbrev pub unpacked : List ℕ → List ℕ
unpacked p = in_groups 3 (λ g. four_letters (bits_of_bytes g)) p

-- calls that pack a text, or unpack bytes, into the front of a lent buffer
abbrev pub Packs : List ℕ → List ℕ → Result ℕ ℕ → List ℕ → Type 0
Packs text before answer after = Fills (text? text) (packed text) before answer after

abbrev pub Unpacks : List ℕ → List ℕ → Result ℕ ℕ → List ℕ → Type 0
Unpacks bytes before answer after = Fills (packed? bytes) (unpacked bytes) before answer after

-- these packed bytes read back to the text
pub record ReadsBack (text bytes : List ℕ) : Type 0 where
  pub formed : packed? bytes ≡ true
  pub same : unpacked bytes ≡ text

-- this text packs to the bytes again
pub record PacksAgain (bytes text : List ℕ) : Type 0 where
  pub formed : text? text ≡ true
  pub same : packed text ≡ bytes
