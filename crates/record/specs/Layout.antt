-- The 80 bytes of a record.
use Rattle.std.specs.Prelude.{ℕ, ◌+◌, if◌then◌else◌, List, [], ◌∷◌, ◌++◌, take, drop, replicate, slice_index}
use Rattle.setpoint.specs.Value.{value_of}
use Rattle.record.specs.declared.Fields.{Fields}
use Rattle.record.specs.declared.Record.{Record}
use Rattle.record.specs.declared.readings.Reading.{Reading}
use Rattle.record.specs.Bytes.{bytes24, bytes32, number24, number32, bit?}
use Rattle.record.specs.Numbers.{text_length, text_at, reserved_length}
use Rattle.record.specs.Readings.{pattern_of}

-- Bit 0 tells that the configuration was changed, bit 1 that the key is open.
abbrev pub flags_of : Fields → ℕ
flags_of fields = (if fields.changed then 1 else 0) + (if fields.key_open then 2 else 0)

-- Bytes 0 to 19. Of a 24-bit number the low 24 bits are written.
abbrev pub field_bytes : Fields → List ℕ
field_bytes fields =
    (fields.device_type ∷ [])
    ++ bytes24 fields.identification
    ++ (fields.polling_address ∷ fields.preambles ∷ [])
    ++ bytes24 fields.assembly_number
    ++ (flags_of fields ∷ [])
    ++ bytes32 fields.setpoint
    ++ (fields.ceiling ∷ fields.flow_unit ∷ [])
    ++ bytes32 fields.full_scale

-- Bytes 20 to 27: the pattern of the flow, then that of the temperature.
abbrev pub reading_bytes : Reading → List ℕ
reading_bytes reading = bytes32 (pattern_of reading.flow) ++ bytes32 (pattern_of reading.temperature)

-- The bytes of a record: its fields, its reading, its text, and seven reserved bytes 0.
abbrev pub encoded : Record → List ℕ
encoded r = field_bytes r.fields ++ reading_bytes r.reading ++ r.text ++ replicate reserved_length 0

abbrev pub fields_at : List ℕ → Fields
fields_at bytes = record {
  device_type = slice_index bytes 0;
  identification = number24 bytes 1;
  polling_address = slice_index bytes 4;
  preambles = slice_index bytes 5;
  assembly_number = number24 bytes 6;
  changed = bit? (slice_index bytes 9) 0;
  key_open = bit? (slice_index bytes 9) 1;
  setpoint = number32 bytes 10;
  ceiling = slice_index bytes 14;
  flow_unit = slice_index bytes 15;
  full_scale = number32 bytes 16;
}

abbrev pub reading_at : List ℕ → Reading
reading_at bytes = record { flow = value_of (number32 bytes 20); temperature = value_of (number32 bytes 24) }

-- The record in 80 bytes, by the places of its fields.
abbrev pub decoded : List ℕ → Record
decoded bytes =
    record { fields = fields_at bytes; reading = reading_at bytes; text = take text_length (drop text_at bytes) }
