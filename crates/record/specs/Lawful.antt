-- Lawful records.
use Rattle.std.specs.Prelude.{◌≡◌, ℕ, ◌^◌, ◌<◌, ◌≤◌, Bool, true, ◌&&◌, length, nat_le, nat_lt}
use Rattle.setpoint.specs.Lawful as setpoints
use Rattle.setpoint.specs.Units.{full_scale?}
use Rattle.record.specs.declared.Fields.{Fields}
use Rattle.record.specs.declared.Record.{Record}
use Rattle.record.specs.Numbers.{most_polling_address, least_reply_preambles, most_reply_preambles, most_ceiling, end_of_24_bits, text_length}
use Rattle.record.specs.Readings.{finite?, FiniteReading}

-- A pattern of 32 bits that is a lawful setpoint's.
abbrev pub LawfulSetpoint : ℕ → Type 0
LawfulSetpoint pattern = (pattern < 2 ^ 32) × (setpoints.lawful? pattern ≡ true)

-- The fields are in range: identification and assembly number in 24 bits, polling address 0 to 15, 2 to 15 preambles,
-- a lawful setpoint, a ceiling of 0 to 100 percent, and a full scale of 1 to 1,000,000 mL/min.
pub record LawfulFields (fields : Fields) : Type 0 where
  pub identification : fields.identification < end_of_24_bits
  pub polling_address : fields.polling_address ≤ most_polling_address
  pub preambles : (least_reply_preambles ≤ fields.preambles) × (fields.preambles ≤ most_reply_preambles)
  pub assembly_number : fields.assembly_number < end_of_24_bits
  pub setpoint : LawfulSetpoint fields.setpoint
  pub ceiling : fields.ceiling ≤ most_ceiling
  pub full_scale : full_scale? fields.full_scale ≡ true

-- Lawful, a term of this project: every field of the record is in range, its reading is two finite binary32 values, and
-- its text has 45 bytes.
pub record Lawful (r : Record) : Type 0 where
  pub fields : LawfulFields r.fields
  pub reading : FiniteReading r.reading
  pub text : length r.text ≡ text_length

-- Whether the fields are in range.
abbrev pub in_range? : Fields → Bool
in_range? fields =
    nat_lt fields.identification end_of_24_bits
    && nat_le fields.polling_address most_polling_address
    && (nat_le least_reply_preambles fields.preambles && nat_le fields.preambles most_reply_preambles)
    && nat_lt fields.assembly_number end_of_24_bits
    && setpoints.lawful? fields.setpoint
    && nat_le fields.ceiling most_ceiling
    && full_scale? fields.full_scale

-- Whether a record, whose reading is of binary32 and whose text is of 45 bytes by their types, is lawful.
abbrev pub lawful? : Record → Bool
lawful? r = in_range? r.fields && finite? r.reading
