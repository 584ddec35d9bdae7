-- What a write does to one record.
use Rattle.std.specs.Prelude.{ℕ, ◌+◌, Bool, if◌then◌else◌, ◌&&◌, List, length, Some, None, Ok, Err, Option, Result, ◌==◌, nat_le, nat_lt}
use Rattle.refusals.specs.Filling.{placed}
use Rattle.setpoint.specs.Numbers.{minus_zero}
use Rattle.setpoint.specs.Refusals.{admitted_under, code_of}
use Rattle.setpoint.specs.Value.{value_of}
use Rattle.setpoint.specs.declared.SetpointRefusal.{SetpointRefusal}
use Rattle.record.specs.declared.Fields.{Fields}
use Rattle.record.specs.declared.Record.{Record}
use Rattle.record.specs.Numbers.{most_polling_address, least_reply_preambles, most_reply_preambles, end_of_24_bits, text_length}
use Rattle.record.specs.Readings.{finite?}
use Rattle.rack.specs.Edits.{Edit, polling_address, preambles, assembly_number, changed, key, sample, text, setpoint}
use Rattle.rack.specs.Refusals.{invalid_selection, too_large, too_small, no_reading, out_of_form}

-- the most bytes of a run of text
abbrev pub most_run : ℕ
most_run = 24

-- a run of text bytes in form: at most 24, within the 45 of a record
abbrev pub text_run? : ℕ → List ℕ → Bool
text_run? place bytes = nat_le (length bytes) most_run && nat_le (place + length bytes) text_length

-- the pattern that is stored of a setpoint: minus zero is stored as zero
abbrev pub stored_pattern : ℕ → ℕ
stored_pattern pattern = if pattern == minus_zero then 0 else pattern

-- the number by which a setpoint is refused
abbrev pub setpoint_refusal : Result ℕ SetpointRefusal → Option ℕ
setpoint_refusal (Ok load) = None
setpoint_refusal (Err e) = Some (code_of e)

-- The number by which a write is refused, from the fields alone; none where it is accepted.
abbrev pub refused_by : Edit → Fields → Option ℕ
refused_by (polling_address address) f = if nat_le address most_polling_address then None else Some invalid_selection
refused_by (preambles count) f =
    if nat_lt count least_reply_preambles then Some too_small
    else if nat_lt most_reply_preambles count then Some too_large
    else None
refused_by (assembly_number number) f = if nat_lt number end_of_24_bits then None else Some too_large
refused_by (changed on) f = None
refused_by (key on) f = None
refused_by (sample reading) f = if finite? reading then None else Some no_reading
refused_by (text place bytes) f = if text_run? place bytes then None else Some out_of_form
refused_by (setpoint pattern) f = setpoint_refusal (admitted_under f.ceiling (value_of pattern))

-- The record with a write's value in its field.
abbrev pub put : Edit → Record → Record
put (polling_address address) r = record r { fields = record r.fields { polling_address = address } }
put (preambles count) r = record r { fields = record r.fields { preambles = count } }
put (assembly_number number) r = record r { fields = record r.fields { assembly_number = number } }
put (changed on) r = record r { fields = record r.fields { changed = on } }
put (key on) r = record r { fields = record r.fields { key_open = on } }
put (sample reading) r = record r { reading = reading }
put (text place bytes) r = record r { text = placed place bytes r.text }
put (setpoint pattern) r = record r { fields = record r.fields { setpoint = stored_pattern pattern } }

-- a value, where nothing refuses it
abbrev pub unless : {X : Type 0} → Option ℕ → X → Result X ℕ
unless None x = Ok x
unless (Some number) x = Err number

-- What a write makes of a record, or the number by which it is refused.
abbrev pub written : Edit → Record → Result Record ℕ
written edit r = unless (refused_by edit r.fields) (put edit r)

-- the answer to a write, and the record after it
abbrev pub answer_of : Result Record ℕ → Result (Unit {0}) ℕ
answer_of (Ok r) = Ok tt
answer_of (Err n) = Err n

abbrev pub record_after : Result Record ℕ → Record → Record
record_after (Ok r) old = r
record_after (Err n) old = old
