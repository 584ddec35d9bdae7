-- Writes, by what they hold: with lists in the place of references.
use Rattle.std.specs.Prelude.{ℕ, Bool, List}
use Rattle.record.specs.declared.readings.Reading.{Reading}
use Rattle.rack.specs.declared.changes.Change.{Change}
use Rattle.rack.specs.declared.changes.Change.TheVariants.{PollingAddress, Preambles, AssemblyNumber, Changed, Key, Sample, Text, Setpoint}

-- A write to one channel: a value for one field. A text has its place and its bytes.
pub data Edit : Type 0 where
  polling_address : ℕ → Edit
  preambles : ℕ → Edit
  assembly_number : ℕ → Edit
  changed : Bool → Edit
  key : Bool → Edit
  sample : Reading → Edit
  text : ℕ → List ℕ → Edit
  setpoint : ℕ → Edit

abbrev pub edit_of : Change → Edit
edit_of (PollingAddress address) = polling_address address
edit_of (Preambles count) = preambles count
edit_of (AssemblyNumber number) = assembly_number number
edit_of (Changed on) = changed on
edit_of (Key on) = key on
edit_of (Sample reading) = sample reading
edit_of (Text place bytes) = text place bytes.now
edit_of (Setpoint pattern) = setpoint pattern
