-- The law of a write: its value stands in the field that it names, and all else is as it was.
use Rattle.std.specs.Prelude.{◌≡◌, ◌≢◌, ℕ, ◌+◌, Bool, false, ◌&&◌, List, length, Some, nat_le, nat_lt, slice_index, slice_range}
use Rattle.record.specs.declared.Record.{Record}
use Rattle.rack.specs.Edits.{Edit, polling_address, preambles, assembly_number, changed, key, sample, text, setpoint}
use Rattle.rack.specs.Changes.{stored_pattern}
use Rattle.rack.specs.Meaning.{channel_of, record_at}

-- What a write may name.
pub data Place : Type 0 where
  of_polling_address : Place
  of_preambles : Place
  of_assembly_number : Place
  of_changed : Place
  of_key : Place
  of_reading : Place
  of_text : Place
  of_setpoint : Place

abbrev pub place_of : Edit → Place
place_of (polling_address address) = of_polling_address
place_of (preambles count) = of_preambles
place_of (assembly_number number) = of_assembly_number
place_of (changed on) = of_changed
place_of (key on) = of_key
place_of (sample reading) = of_reading
place_of (text place bytes) = of_text
place_of (setpoint pattern) = of_setpoint

-- The value of a write stands in a record.
abbrev pub HoldsValue : Edit → Record → Type 0
HoldsValue (polling_address address) r = r.fields.polling_address ≡ address
HoldsValue (preambles count) r = r.fields.preambles ≡ count
HoldsValue (assembly_number number) r = r.fields.assembly_number ≡ number
HoldsValue (changed on) r = r.fields.changed ≡ on
HoldsValue (key on) r = r.fields.key_open ≡ on
HoldsValue (sample reading) r = r.reading ≡ reading
HoldsValue (text place bytes) r = slice_range r.text place (place + length bytes) ≡ bytes
HoldsValue (setpoint pattern) r = r.fields.setpoint ≡ stored_pattern pattern

-- Whether a text byte is of the run that a write names.
abbrev pub in_run? : Edit → ℕ → Bool
in_run? (text place bytes) at = nat_le place at && nat_lt at (place + length bytes)
in_run? edit at = false

-- From a record to the one after a write that was accepted.
pub record Puts (edit : Edit) (old new : Record) : Type 0 where
  pub value : HoldsValue edit new
  pub polling_address : place_of edit ≢ of_polling_address → new.fields.polling_address ≡ old.fields.polling_address
  pub preambles : place_of edit ≢ of_preambles → new.fields.preambles ≡ old.fields.preambles
  pub assembly_number : place_of edit ≢ of_assembly_number → new.fields.assembly_number ≡ old.fields.assembly_number
  pub changed : place_of edit ≢ of_changed → new.fields.changed ≡ old.fields.changed
  pub key_open : place_of edit ≢ of_key → new.fields.key_open ≡ old.fields.key_open
  pub setpoint : place_of edit ≢ of_setpoint → new.fields.setpoint ≡ old.fields.setpoint
  pub reading : place_of edit ≢ of_reading → new.reading ≡ old.reading
  pub text : (at : ℕ) → in_run? edit at ≡ false → slice_index new.text at ≡ slice_index old.text at
  pub text_length : length new.text ≡ length old.text
  pub device_type : new.fields.device_type ≡ old.fields.device_type
  pub identification : new.fields.identification ≡ old.fields.identification
  pub ceiling : new.fields.ceiling ≡ old.fields.ceiling
  pub flow_unit : new.fields.flow_unit ≡ old.fields.flow_unit
  pub full_scale : new.fields.full_scale ≡ old.fields.full_scale

-- The same of a list of records: one channel's record is written, and every other is as it was.
pub record PutsAt (channel : ℕ) (edit : Edit) (old new : List Record) : Type 0 where
  pub was : Record
  pub «is» : Record
  pub found : channel_of old channel ≡ Some was
  pub after : channel_of new channel ≡ Some «is»
  pub puts : Puts edit was «is»
  pub others : (other : ℕ) → other ≢ channel → record_at new other ≡ record_at old other
  pub count : length new ≡ length old
