-- A call that answers a transmission for one channel, into a buffer that its caller lends.
use Rattle.std.specs.Prelude.{◌≡◌, ℕ, if◌then◌else◌, List, length, Some, None, Ok, Option, Result, nat_lt}
use Rattle.std.specs.Option.{option_map, option_map_or, option_and_then}
use Rattle.refusals.specs.Filling.{in_front}
use Rattle.refusals.specs.Refusals.{number_of}
use Rattle.refusals.specs.declared.Refusal.TheVariants.{ShortBuffer, BadRecord}
use Rattle.frame.specs.Frames.{Parts}
use Rattle.record.specs.Lawful.{lawful?}
use Rattle.record.specs.declared.Record.{Record}
use Rattle.rack.specs.Changes.{unless}
use Rattle.line.specs.Addressing.{means?}
use Rattle.line.specs.Allotments.{Allotment}
use Rattle.line.specs.Answers.{answer_room}
use Rattle.line.specs.Characters.{Reception}
use Rattle.line.specs.Judgements.{Judgement, judgement, changed_by, answer_bytes}
use Rattle.line.specs.Whole.{frame_of}
use Rattle.line.specs.declared.allotting.Given.{Given}

abbrev pub allotment_in : Given → Allotment
allotment_in given = record { supply = given.supply; others = given.others }

-- what a channel does that is meant: its record after that, and the bytes of its answer
pub record Answering : Type 0 where
  pub after : Record
  pub bytes : List ℕ

-- by its judgement of a frame
abbrev pub answering_by : Parts → Judgement → Record → Answering
answering_by f j r = record { after = changed_by j r; bytes = answer_bytes f j (changed_by j r) }

-- at a transmission with this frame
abbrev pub answering_at : Reception → Allotment → Record → Parts → Answering
answering_at x a r f = answering_by f (judgement x f r.fields a) r

-- the frame of a whole transmission that means the channel
abbrev pub meant_frame : Reception → Record → Option Parts
meant_frame x r = option_and_then (λ f. if means? f r then Some f else None) (frame_of x)

-- it is silent where the transmission is not whole or does not mean it
abbrev pub answering_to : Reception → Allotment → Record → Option Answering
answering_to x a r = option_map (answering_at x a r) (meant_frame x r)

-- 102 where the buffer has not the room that is asked for an answer, then 103 where the record is not
-- lawful
abbrev pub refusal_for : List ℕ → Record → Option ℕ
refusal_for buffer r =
    if nat_lt (length buffer) answer_room then Some (number_of ShortBuffer)
    else if lawful? r then None
    else Some (number_of BadRecord)

-- what stands after the call: the same where it is refused
abbrev pub unless_refused : {X : Type 0} → Option ℕ → X → X → X
unless_refused refusal old new = option_map_or (λ number. old) refusal new

-- the buffer and the record after a channel that answers or is silent
abbrev pub buffer_after : Option Answering → List ℕ → List ℕ
buffer_after answering buffer = option_map_or (λ a. in_front a.bytes buffer) answering buffer

abbrev pub record_after : Option Answering → Record → Record
record_after answering r = option_map_or (λ a. a.after) answering r

-- What the call does: it tells a refusal, silence, or the length of the answer.
pub record Responds (x : Reception) (a : Allotment) (r r' : Record) (buffer buffer' : List ℕ)
    (answer : Result (Option ℕ) ℕ) : Type 0 where
  pub answers : answer ≡ unless (refusal_for buffer r)
      (option_map (λ o. length o.bytes) (answering_to x a r))
  pub leaves : buffer' ≡ unless_refused (refusal_for buffer r) buffer
      (buffer_after (answering_to x a r) buffer)
  pub records : r' ≡ unless_refused (refusal_for buffer r) r (record_after (answering_to x a r) r)

-- What a channel does that is meant, in a buffer with room: it tells the length of its answer.
pub record Does (a : Answering) (r' : Record) (buffer buffer' : List ℕ) (answer : Result ℕ ℕ)
    : Type 0 where
  pub tells : answer ≡ Ok (length a.bytes)
  pub leaves : buffer' ≡ in_front a.bytes buffer
  pub records : r' ≡ a.after
