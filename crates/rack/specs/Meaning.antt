-- A rack by the list of records that it means, numbered from 0.
use Rattle.std.specs.Prelude.{◌≡◌, ℕ, ◌+◌, min, if◌then◌else◌, ◌&&◌, List, length, Some, None, Ok, Err, Option, Result, nat_le, nat_lt, slice_get, slice_index, slice_set}
use Rattle.record.specs.declared.Record.{Record}
use Rattle.rack.specs.Changes.{answer_of, written}
use Rattle.rack.specs.Edits.{Edit}
use Rattle.rack.specs.Refusals.{no_channel, out_of_form}

-- the number of the last channel that a panel may have, and the most channels
abbrev pub last_channel : ℕ
last_channel = 14

abbrev pub most_channels : ℕ
most_channels = last_channel + 1

-- the place of the last text byte
abbrev pub last_place : ℕ
last_place = 44

-- The number of records that a rack tells, a term of this project: 16 where there are more than 15.
abbrev pub told : List Record → ℕ
told records = min (length records) (most_channels + 1)

abbrev pub record_at : List Record → ℕ → Option Record
record_at = slice_get

-- The record of a channel: there is none at a channel not below the number told, or above 14.
abbrev pub channel_of : List Record → ℕ → Option Record
channel_of records channel =
    if nat_lt channel (told records) && nat_le channel last_channel then record_at records channel else None

-- A question to a channel: 101 where there is none.
abbrev pub answered : {X : Type 0} → (Record → Result X ℕ) → Option Record → Result X ℕ
answered question (Some r) = question r
answered question None = Err no_channel

abbrev pub asked : {X : Type 0} → (Record → X) → List Record → ℕ → Result X ℕ
asked part records channel = answered (λ r. Ok (part r)) (channel_of records channel)

-- one text byte by its place among the 45, 110 past them
abbrev pub byte_of : ℕ → Record → Result ℕ ℕ
byte_of place r = if nat_le place last_place then Ok (slice_index r.text place) else Err out_of_form

abbrev pub text_byte : List Record → ℕ → ℕ → Result ℕ ℕ
text_byte records channel place = answered (byte_of place) (channel_of records channel)

-- a write to a channel: its record after it, or the refusal
abbrev pub written_at : List Record → ℕ → Edit → Result Record ℕ
written_at records channel edit = answered (written edit) (channel_of records channel)

-- the records after it: that channel's is replaced, and no other
abbrev pub records_after : Result Record ℕ → List Record → ℕ → List Record
records_after (Ok r) records channel = slice_set records channel r
records_after (Err n) records channel = records

-- both at once: the answer to a write, and the records after it
abbrev pub answer_at : List Record → ℕ → Edit → Result (Unit {0}) ℕ
answer_at records channel edit = answer_of (written_at records channel edit)

abbrev pub after_at : List Record → ℕ → Edit → List Record
after_at records channel edit = records_after (written_at records channel edit) records channel

-- One write of a rack that holds no more than its records.
pub record WroteRecords (old new : List Record) (channel : ℕ) (edit : Edit) (answer : Result (Unit {0}) ℕ)
    : Type 0 where
  pub answers : answer ≡ answer_at old channel edit
  pub after : new ≡ after_at old channel edit
