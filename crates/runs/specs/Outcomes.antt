-- The one outcome of a call.
use Rattle.std.specs.Prelude.{◌≡◌, ℕ, ◌+◌, Bool, if◌then◌else◌, ◌&&◌, [], ◌∷◌, ◌++◌, Some, None, Option, nat_lt, slice_set, slice_get}
use Rattle.refusals.specs.Refusals.{number_of}
use Rattle.refusals.specs.declared.Refusal.TheVariants.{NoChannel, ShortBuffer, Marks}
use Rattle.line.specs.Answers.{answer_room}
use Rattle.runs.specs.Devices.{Device}
use Rattle.runs.specs.Places.{only_place}
use Rattle.runs.specs.Shares.{others}
use Rattle.runs.specs.Steps.{Step}
use Rattle.runs.specs.Traces.{Rack, Pending, Call, Result, Interaction, character, gap, local, taken, refused, silent, answered, ◌▸◌, local_result}

module _ (D : Device) where
  -- the result of a call, and records and pending characters after it
  pub record Outcome : Type 0 where
    pub result : Result D
    pub rack : Rack D
    pub pending : Pending D

  abbrev pub outcome_of : Result D → Rack D → Pending D → Outcome
  outcome_of result records pending = record { result = result; rack = records; pending = pending }

  -- the place of the one channel that the transmission means, if it means just one
  abbrev pub sole : Rack D → Pending D → Option ℕ
  sole records pending = only_place (λ r. D.meant? r pending) records

  -- the channel at this place, with this record, is asked for more than the others leave of the capacity
  abbrev pub exceeds? : ℕ → Rack D → Pending D → ℕ → D.Record → Bool
  exceeds? capacity records pending place r =
      D.asks? r pending && nat_lt capacity (others D records place + D.asked (D.nameplate r) pending)

  -- the transmission has ended, and means just the channel at this place: of its record, which a rack has at such a
  -- place
  abbrev pub answered_by : ℕ → Rack D → Pending D → ℕ → Option D.Record → Outcome
  answered_by capacity records pending place (Some r) =
      if exceeds? capacity records pending place r
      then outcome_of (answered place (D.denial r pending)) records []
      else outcome_of (answered place (D.reply r pending)) (slice_set records place (D.served r pending)) []
  answered_by capacity records pending place None = outcome_of silent records []

  -- the transmission has ended: of the place of the one channel that it means, if it means just one
  abbrev pub ended : ℕ → Rack D → Pending D → Option ℕ → Outcome
  ended capacity records pending (Some place) = answered_by capacity records pending place (slice_get records place)
  ended capacity records pending None = outcome_of silent records []

  -- a local operation on the channel at this place: of its record, if the rack has that place
  abbrev pub operated_at : Rack D → Pending D → ℕ → D.Operation → Option D.Record → Outcome
  operated_at records pending place operation (Some r) =
      outcome_of (local_result (D.refusal r operation)) (slice_set records place (D.operated r operation)) pending
  operated_at records pending place operation None = outcome_of (refused (number_of NoChannel)) records pending

  abbrev pub outcome : ℕ → Rack D → Pending D → Call D → Outcome
  outcome capacity records pending (character c) =
      if D.acceptable? c
      then outcome_of taken records (pending ++ (c ∷ []))
      else outcome_of (refused (number_of Marks)) records pending
  outcome capacity records pending (gap n) =
      if nat_lt n answer_room
      then outcome_of (refused (number_of ShortBuffer)) records pending
      else ended capacity records pending (sole records pending)
  outcome capacity records pending (local place operation) =
      operated_at records pending place operation (slice_get records place)

  -- the call with this outcome is a step
  abbrev pub Leads : ℕ → Rack D → Pending D → Call D → Outcome → Type 0
  Leads capacity records pending c o = Step D capacity records pending (c ▸ o.result) o.rack o.pending

  -- every call has its outcome
  abbrev pub Follows : ℕ → Type 0
  Follows capacity = (records : Rack D) (pending : Pending D) (c : Call D)
      → Leads capacity records pending c (outcome capacity records pending c)

  -- from one state a call has no other outcome
  abbrev pub Determined : ℕ → Type 0
  Determined capacity = (records records' : Rack D) (pending pending' : Pending D) (e : Interaction D)
      → Step D capacity records pending e records' pending'
      → outcome capacity records pending e.call ≡ outcome_of e.result records' pending'
