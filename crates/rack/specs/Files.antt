-- Record files: records of 80 bytes, one after another.
use Rattle.std.specs.Prelude.{◌≡◌, ℕ, Bool, suc, ◌≤◌, ◌/◌, ◌%◌, if◌then◌else◌, ◌&&◌, List, [], ◌∷◌, ◌++◌, map, take, length, codes, decimal, Some, None, Ok, Err, Option, Result, ◌==◌, nat_le, slice_get}
use Rattle.std.specs.List.{AllByRecursion}
use Rattle.std.specs.Simd.{first_chunks}
use Rattle.record.specs.Faults as faults
use Rattle.record.specs.Faults.{fault_of, FirstFault}
use Rattle.record.specs.Lawful.{Lawful}
use Rattle.record.specs.Layout.{decoded}
use Rattle.record.specs.Numbers.{record_length}
use Rattle.record.specs.declared.Record.{Record}
use Rattle.record.specs.declared.faults.RecordFault.{RecordFault}
use Rattle.refusals.specs.Refusals as refusals
use Rattle.refusals.specs.declared.Refusal.{Refusal}
use Rattle.refusals.specs.declared.Refusal.TheVariants.{BadRecord, NumberOfRecords}
use Rattle.rack.specs.declared.files.FileFault.{FileFault}
use Rattle.rack.specs.declared.files.FileFault.TheVariants.{Count, Record as Bad}
use Rattle.rack.specs.declared.files.RecordError.{RecordError}

-- how a fault of a file is refused: 103 or 104
abbrev pub refusal_of : FileFault → Refusal
refusal_of Count = NumberOfRecords
refusal_of (Bad e) = BadRecord

-- the words in which a fault of a file is printed: those of its refusal, and then which record and which field
abbrev pub words_of : FileFault → List ℕ
words_of Count = refusals.words_of NumberOfRecords
words_of (Bad e) = refusals.words_of BadRecord ++ codes " " ++ decimal e.number ++ codes ": " ++ faults.words_of e.fault

-- the records of a file, as rows of 80 bytes
abbrev pub rows_of : List ℕ → List (List ℕ)
rows_of file = first_chunks record_length (length file / record_length) file

abbrev pub fault_in : ℕ → Option RecordFault → Option RecordError → Option RecordError
fault_in number (Some fault) rest = Some (record { number = number; fault = fault })
fault_in number None rest = rest

-- What an error says of a row: its number, and its first field out of range.
pub record Reports (number : ℕ) (row : List ℕ) (e : RecordError) : Type 0 where
  pub numbers : e.number ≡ number
  pub first : FirstFault row e.fault

-- the first row with a field out of range, and that field
abbrev pub first_bad : ℕ → List (List ℕ) → Option RecordError
first_bad number [] = None
first_bad number (row ∷ rows) = fault_in number (fault_of row) (first_bad (suc number) rows)

abbrev pub or_fault : Option RecordError → Result (Unit {0}) FileFault
or_fault (Some e) = Err (Bad e)
or_fault None = Ok tt

-- Which record of a file a fault names: the first that is not lawful, by its number, and its first field out of range.
-- The records before it are lawful.
pub record FirstBad (rows : List (List ℕ)) (e : RecordError) : Type 0 where
  pub row : List ℕ
  pub there : slice_get rows e.number ≡ Some row
  pub field : FirstFault row e.fault
  pub before : AllByRecursion Lawful (map decoded (take e.number rows))

-- A file is of 1 to this many records.
pub record OfRecords (most : ℕ) (file : List ℕ) : Type 0 where
  pub whole : length file % record_length ≡ 0
  pub some : 1 ≤ length file / record_length
  pub few : length file / record_length ≤ most

-- What a fault says of a file.
abbrev pub Explains : ℕ → List ℕ → FileFault → Type 0
Explains most file Count = OfRecords most file → ⊥
Explains most file (Bad e) = OfRecords most file × FirstBad (rows_of file) e

-- A file that is taken is of 1 to this many records, all of them lawful.
pub record Taken (most : ℕ) (file : List ℕ) : Type 0 where
  pub counted : OfRecords most file
  pub lawful : AllByRecursion Lawful (map decoded (rows_of file))

-- what a file of at most this many records answers: first its length counts, then its records
abbrev pub file_answer : ℕ → List ℕ → Result (Unit {0}) FileFault
file_answer most file =
    if length file % record_length == 0
    && nat_le 1 (length file / record_length) && nat_le (length file / record_length) most
    then or_fault (first_bad 0 (rows_of file))
    else Err Count

-- the records of a file
abbrev pub file_records : List ℕ → List Record
file_records file = map decoded (rows_of file)

-- the records that are held after a file was taken or refused
abbrev pub kept_or_read : Bool → List ℕ → List Record → List Record
kept_or_read taken file held = if taken then file_records file else held
