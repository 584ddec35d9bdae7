-- The characters of a transmission, and what a receiver keeps of them.
use Rattle.std.specs.Prelude.{◌≡◌, ℕ, min, Bool, List, map, drop, fold, bit_or}
use Rattle.std.specs.List.{list_any}
use Rattle.frame.specs.Transmissions.{fewest_preambles, preambles_of, span_of}
use Rattle.record.specs.Bytes.{bit?}

-- a character as the line delivers it: a byte, and the sum of its marks, 1 parity, 2 overrun, 4 framing
pub record Character : Type 0 where
  pub byte : ℕ
  pub marks : ℕ

abbrev pub bytes_in : List Character → List ℕ
bytes_in characters = map (λ c. c.byte) characters

-- the characters from the start on: marks on preambles count for nothing
abbrev pub from_start : List Character → List Character
from_start characters = drop (preambles_of (bytes_in characters)) characters

-- what is kept of a transmission: how many preambles, the bytes from the start on, and all marks from
-- the start on together, each once
pub record Reception : Type 0 where
  pub preambles : ℕ
  pub span : List ℕ
  pub marks : ℕ

-- of bytes and of marks in their order: marks that are missing are none
abbrev pub reception_of : List ℕ → List ℕ → Reception
reception_of bytes marks = record {
  preambles = preambles_of bytes;
  span = span_of bytes;
  marks = fold bit_or 0 (drop (preambles_of bytes) marks);
}

abbrev pub received : List Character → Reception
received characters = reception_of (bytes_in characters) (map (λ c. c.marks) characters)

-- a count of preambles as far as it matters
abbrev pub enough : ℕ → ℕ
enough count = min count fewest_preambles

-- These are the characters of which this was kept. Two preambles are as good as more, and may stand for
-- them.
pub record Keeps (x : Reception) (characters : List Character) : Type 0 where
  pub preambles : enough x.preambles ≡ enough (preambles_of (bytes_in characters))
  pub span : x.span ≡ span_of (bytes_in characters)
  pub marks : x.marks ≡ (received characters).marks

-- of all characters that have these bytes and these marks, this is what is kept
abbrev pub KeepsThese : Reception → List ℕ → List ℕ → Type 0
KeepsThese x bytes marks =
    (characters : List Character) → bytes_in characters ≡ bytes
    → map (λ c. c.marks) characters ≡ marks → Keeps x characters

-- whether some character from the start on has the mark of a bit
abbrev pub marked? : ℕ → List Character → Bool
marked? index characters = list_any (λ c. bit? c.marks index) (from_start characters)
