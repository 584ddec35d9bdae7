-- What the words of a row say.
use Rattle.std.specs.Prelude.{◌≡◌, ℕ, Bool, List, [], ◌∷◌, Ok, Err, codes, Decides, Result}
use Rattle.std.specs.Str.Parse.{IsNumeral, digits_value, without_leading_plus}
use Rattle.setpoint.specs.Value.{value_of}
use Rattle.record.specs.declared.Record.{Record}
use Rattle.rack.specs.Files.{file_answer, file_records}
use Rattle.rack.specs.declared.changes.Change.{Change}
use Rattle.rack.specs.declared.changes.Change.TheVariants.{PollingAddress, Preambles, AssemblyNumber, Changed, Key, Sample, Text, Setpoint}
use Rattle.tables.specs.Words.{pattern_at}
use Rattle.tables.specs.declared.words.WordFault.{WordFault}

-- a word is a decimal number
abbrev pub Decimal : List ℕ → ℕ → Type 0
Decimal word n = IsNumeral 10 (without_leading_plus word) × (digits_value 10 (without_leading_plus word) ≡ n)

-- '1' for true
abbrev pub Flag : List ℕ → Bool → Type 0
Flag word on = Decides on (word ≡ codes "1")

-- two words are a change, its kind and its value
abbrev pub Tells : List ℕ → List ℕ → Change → Type 0
Tells kind word (PollingAddress n) = (kind ≡ codes "polling") × Decimal word n
Tells kind word (Preambles n) = (kind ≡ codes "preambles") × Decimal word n
Tells kind word (AssemblyNumber n) = (kind ≡ codes "assembly") × Decimal word n
Tells kind word (Changed on) = (kind ≡ codes "changed") × Flag word on
Tells kind word (Key on) = (kind ≡ codes "key") × Flag word on
Tells kind word (Sample reading) = ⊥
Tells kind word (Text place bytes) = ⊥
Tells kind word (Setpoint pattern) = (kind ≡ codes "setpoint") × (pattern_at word ≡ Ok pattern)

-- two patterns are a sample
abbrev pub SamplesOf : Result ℕ WordFault → Result ℕ WordFault → Change → Type 0
SamplesOf (Ok flow) (Ok temperature) change =
    change ≡ Sample (record { flow = value_of flow; temperature = value_of temperature })
SamplesOf (Ok flow) (Err e) change = ⊥
SamplesOf (Err e) temperature change = ⊥

-- two words are a sample, its flow and its temperature
abbrev pub Samples : List ℕ → List ℕ → Change → Type 0
Samples flow temperature = SamplesOf (pattern_at flow) (pattern_at temperature)

-- the bytes of a row are a file of one lawful record
abbrev pub Holds : List ℕ → Record → Type 0
Holds file r = (file_answer 1 file ≡ Ok tt) × (file_records file ≡ r ∷ [])
