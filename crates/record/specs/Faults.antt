-- What can be wrong with the 80 bytes of a record.
use Rattle.std.specs.Prelude.{◌≡◌, ℕ, ◌<◌, Bool, true, false, not, ◌||◌, List, [], ◌∷◌, ◌++◌, drop, codes, find, decimal, Option, nat_lt, slice_index}
use Rattle.std.specs.Float.{float_is_finite}
use Rattle.setpoint.specs.Lawful.{lawful?}
use Rattle.setpoint.specs.Units.{full_scale?}
use Rattle.setpoint.specs.Value.{value_of}
use Rattle.record.specs.declared.faults.RecordFault.{RecordFault}
use Rattle.record.specs.declared.faults.RecordFault.TheVariants.{PollingAddress, Preambles, Flags, Setpoint, Ceiling, FullScale, Flow, Temperature, Reserved}
use Rattle.record.specs.Bytes.{number32, zeros?}
use Rattle.record.specs.Numbers.{most_polling_address, least_reply_preambles, most_reply_preambles, most_flags, most_ceiling, reserved_at}

-- The offset of the field that a fault names.
abbrev pub offset_of : RecordFault → ℕ
offset_of PollingAddress = 4
offset_of Preambles = 5
offset_of Flags = 9
offset_of Setpoint = 10
offset_of Ceiling = 14
offset_of FullScale = 16
offset_of Flow = 20
offset_of Temperature = 24
offset_of Reserved = 73

-- The words in which a fault is printed.
abbrev pub words_of : RecordFault → List ℕ
words_of fault = codes "field out of range at offset " ++ decimal (offset_of fault)

-- The fields that can be out of range, in the order of their offsets: those before the reading, and the rest.
abbrev pub field_faults : List RecordFault
field_faults = PollingAddress ∷ Preambles ∷ Flags ∷ Setpoint ∷ Ceiling ∷ FullScale ∷ []

abbrev pub later_faults : List RecordFault
later_faults = Flow ∷ Temperature ∷ Reserved ∷ []

abbrev pub faults : List RecordFault
faults = field_faults ++ later_faults

-- Whether the field that a fault names is out of range.
abbrev pub offends? : List ℕ → RecordFault → Bool
offends? bytes PollingAddress = nat_lt most_polling_address (slice_index bytes 4)
offends? bytes Preambles = nat_lt (slice_index bytes 5) least_reply_preambles || nat_lt most_reply_preambles (slice_index bytes 5)
offends? bytes Flags = nat_lt most_flags (slice_index bytes 9)
offends? bytes Setpoint = not (lawful? (number32 bytes 10))
offends? bytes Ceiling = nat_lt most_ceiling (slice_index bytes 14)
offends? bytes FullScale = not (full_scale? (number32 bytes 16))
offends? bytes Flow = not (float_is_finite (value_of (number32 bytes 20)))
offends? bytes Temperature = not (float_is_finite (value_of (number32 bytes 24)))
offends? bytes Reserved = not (zeros? (drop reserved_at bytes))

-- The first field that is out of range; none where the bytes are a lawful record's.
abbrev pub fault_of : List ℕ → Option RecordFault
fault_of bytes = find (offends? bytes) faults

-- The fault's field is out of range, and every field of a smaller offset is in range.
pub record FirstFault (bytes : List ℕ) (fault : RecordFault) : Type 0 where
  pub here : offends? bytes fault ≡ true
  pub before : (other : RecordFault) → offset_of other < offset_of fault → offends? bytes other ≡ false
