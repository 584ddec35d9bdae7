-- Answers to records, record files and questions for text bytes as they are printed.
use Rattle.std.specs.Prelude.{ℕ, if◌then◌else◌, List, [], ◌∷◌, ◌++◌, length, codes, Some, None, Ok, Err, Option, Result, ◌==◌}
use Rattle.std.specs.Fmt.{decimal}
use Rattle.hexdigits.specs.Hex.{hex_of}
use Rattle.refusals.specs.Refusals as refusals
use Rattle.refusals.specs.declared.Refusal.TheVariants.{BadRecord}
use Rattle.record.specs.Numbers.{record_length}
use Rattle.record.specs.Faults.{offset_of, fault_of}
use Rattle.record.specs.declared.Record.{Record}
use Rattle.record.specs.declared.faults.RecordFault.{RecordFault}
use Rattle.rack.specs.Files.{refusal_of, file_answer, file_records}
use Rattle.rack.specs.Meaning.{told}
use Rattle.rack.specs.Refusals.{number_of}
use Rattle.rack.specs.declared.refusal.RackRefusal.{RackRefusal}
use Rattle.rack.specs.declared.files.FileFault.{FileFault}
use Rattle.rack.specs.declared.files.FileFault.TheVariants.{Count, Record as Bad}
use Rattle.tables.specs.declared.files.Checked.{Checked}

-- the number of a refusal
abbrev pub refused : ℕ → List ℕ
refused number = codes "refused " ++ decimal number

abbrev pub checked_text : Option RecordFault → List ℕ
checked_text None = codes "lawful"
checked_text (Some fault) =
    refused (refusals.number_of BadRecord) ++ codes " " ++ decimal (offset_of fault)

abbrev pub filled_text : Result ℕ FileFault → List ℕ
filled_text (Ok count) = decimal count ++ codes " records"
filled_text (Err Count) = refused (refusals.number_of (refusal_of Count))
filled_text (Err (Bad e)) =
    refused (refusals.number_of (refusal_of (Bad e)))
    ++ codes " " ++ decimal e.number ++ codes " " ++ decimal (offset_of e.fault)

abbrev pub byte_text : Result ℕ RackRefusal → List ℕ
byte_text (Ok byte) = hex_of (byte ∷ [])
byte_text (Err refusal) = refused (number_of refusal)

-- the first fault of 80 bytes
abbrev pub check_of : List ℕ → Option Checked
check_of bytes =
    if length bytes == record_length then Some (record { 0 = fault_of bytes }) else None

-- how many records a rack tells after a file with this answer and these records
abbrev pub told_by : Result (Unit {0}) FileFault → List Record → Result ℕ FileFault
told_by (Ok u) records = Ok (told records)
told_by (Err fault) records = Err fault

-- how many records a rack with room for so many tells after a file, or why the file is refused
abbrev pub filled_by : ℕ → List ℕ → Result ℕ FileFault
filled_by most file = told_by (file_answer most file) (file_records file)
