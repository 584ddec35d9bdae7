-- The records of a shelf, each in a row of 80 bytes.
use Rattle.std.specs.Prelude.{◌≡◌, ℕ, List, None, Ok, Err, Result, map, slice_set}
use Rattle.std.specs.List.{AllByRecursion}
use Rattle.record.specs.declared.Record.{Record}
use Rattle.record.specs.Faults.{fault_of}
use Rattle.record.specs.Lawful.{Lawful}
use Rattle.record.specs.Layout.{decoded, encoded}
use Rattle.rack.specs.Edits.{Edit}
use Rattle.rack.specs.Meaning.{answer_at, written_at}

-- the bytes of a lawful record: no field is out of range, and the reserved bytes are 0
abbrev pub Faultless : List ℕ → Type 0
Faultless row = fault_of row ≡ None

abbrev pub records_in : List (List ℕ) → List Record
records_in = map decoded

-- the rows of lawful records, each as its record is encoded
abbrev pub AllLawful : List (List ℕ) → Type 0
AllLawful rows = AllByRecursion Lawful (records_in rows)

abbrev pub AllFaultless : List (List ℕ) → Type 0
AllFaultless rows = AllByRecursion Faultless rows

-- the rows after a write: the bytes of that channel's record are replaced, and no other row
abbrev pub rows_after : Result Record ℕ → List (List ℕ) → ℕ → List (List ℕ)
rows_after (Ok r) rows channel = slice_set rows channel (encoded r)
rows_after (Err n) rows channel = rows

-- One write of a shelf, by its rows.
pub record WroteRows (old new : List (List ℕ)) (channel : ℕ) (edit : Edit) (answer : Result (Unit {0}) ℕ) : Type 0 where
  pub answers : answer ≡ answer_at (records_in old) channel edit
  pub after : new ≡ rows_after (written_at (records_in old) channel edit) old channel
