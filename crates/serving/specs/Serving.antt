-- What the channels of a rack do at the end of a transmission.
use Rattle.std.specs.Prelude.{◌≡◌, ℕ, List, length, Ok, Err, Option, Result, nat_lt, slice_set, if◌then◌else◌}
use Rattle.std.specs.Option.{option_map, option_and_then, option_map_or, option_flatten, MatchOption}
use Rattle.std.specs.Result.{result_ok}
use Rattle.refusals.specs.Filling.{in_front}
use Rattle.refusals.specs.Refusals.{number_of}
use Rattle.refusals.specs.declared.Refusal.{Refusal}
use Rattle.refusals.specs.declared.Refusal.TheVariants.{ShortBuffer}
use Rattle.frame.specs.Frames.{Parts}
use Rattle.frame.specs.Views.{viewed}
use Rattle.rack.specs.Edits.{Edit}
use Rattle.rack.specs.Meaning.{channel_of}
use Rattle.rack.specs.Writes.{WriteRelation, Writes}
use Rattle.record.specs.declared.Record.{Record}
use Rattle.line.specs.Allotments.{Allotment}
use Rattle.line.specs.Answers.{answer_room, AnswerLaw}
use Rattle.line.specs.Characters.{Reception}
use Rattle.line.specs.Judgements.{Judgement, judgement, edits, changed_by, answer_bytes}
use Rattle.line.specs.Whole.{frame_of}
use Rattle.runs.specs.Channel.{flow_channel}
use Rattle.runs.specs.Shares.{others}
use Rattle.serving.specs.Meant.{sole_meant}
use Rattle.serving.specs.declared.answers.Answer.{Answer}

-- what a setpoint of a channel is weighed by: the supply, and what the others draw of it
abbrev pub allotment_of : ℕ → List Record → ℕ → Allotment
allotment_of supply records channel =
    record { supply = supply; others = others flow_channel records channel }

-- What a channel that is meant does: what it writes, its record after that, and the bytes of its
-- answer.
pub record Answering : Type 0 where
  pub channel : ℕ
  pub edits : List Edit
  pub after : Record
  pub bytes : List ℕ

-- by its judgement of a frame
abbrev pub answering_by : Parts → ℕ → Record → Judgement → Answering
answering_by f channel r j = record {
  channel = channel;
  edits = edits j;
  after = changed_by j r;
  bytes = answer_bytes f j (changed_by j r);
}

-- at a transmission with this frame, by which the channel of this number is meant
abbrev pub answering_at : ℕ → List Record → Reception → Parts → ℕ → Option Answering
answering_at supply records x f channel =
    option_map (λ r.
    answering_by f channel r (judgement x f r.fields (allotment_of supply records channel)))
    (channel_of records channel)

-- Which channel answers, if there are a supply and a transmission that is not too long, and this is
-- whole and means just one.
abbrev pub answering_to : Option ℕ → List Record → Option Reception → Option Answering
answering_to supply records received =
    option_and_then (λ s. option_and_then (λ x. option_and_then (λ f.
    option_and_then (λ channel. answering_at s records x f channel) (sole_meant f records))
    (frame_of x)) received) supply

-- what comes of a gap: 102 where the buffer has not the room that is asked for an answer
abbrev pub served : Option ℕ → List Record → Option Reception → List ℕ → Result (Option Answering) ℕ
served supply records received buffer =
    if nat_lt (length buffer) answer_room
    then Err (number_of ShortBuffer)
    else Ok (answering_to supply records received)

-- who answers, and by how many bytes: as it is told, and as it has to be
abbrev pub told : Result (Option Answer) Refusal → Result (Option (ℕ × ℕ)) ℕ
told result = viewed (option_map (λ a. (a.channel, a.length))) result

abbrev pub to_be_told : Result (Option Answering) ℕ → Result (Option (ℕ × ℕ)) ℕ
to_be_told (Ok answering) = Ok (option_map (λ a. (a.channel, length a.bytes)) answering)
to_be_told (Err number) = Err number

-- the channel that answers, if one does
abbrev pub answering_in : Result (Option Answering) ℕ → Option Answering
answering_in s = option_flatten (result_ok s)

-- the buffer and the records after it
abbrev pub buffer_after : Option Answering → List ℕ → List ℕ
buffer_after answering buffer = option_map_or (λ a. in_front a.bytes buffer) answering buffer

abbrev pub records_after : Option Answering → List Record → List Record
records_after answering records =
    option_map_or (λ a. slice_set records a.channel a.after) answering records

-- The rack went through exactly the writes of the channel that answers, and is the same value where
-- none does.
abbrev pub WritesOf : {X : Type 0} → WriteRelation X → Option Answering → X → X → Type 0
WritesOf wrote answering before after =
    MatchOption answering (after ≡ before) (λ a. Writes wrote a.channel a.edits before after)

-- What a gap does by which this is served: to the rack, to the lent buffer, and what it tells.
pub record Serves {X : Type 0} (records : X → List Record) (wrote : WriteRelation X)
    (s : Result (Option Answering) ℕ) (before after : X) (buffer buffer' : List ℕ)
    (result : Result (Option Answer) Refusal) : Type 0 where
  pub tells : told result ≡ to_be_told s
  pub front : buffer' ≡ buffer_after (answering_in s) buffer
  pub leaves : records after ≡ records_after (answering_in s) (records before)
  pub writes : WritesOf wrote (answering_in s) before after

-- the law of answers, for the transmission that is answered
abbrev pub Lawfully : Option Reception → Option Answering → Type 0
Lawfully received answering =
    MatchOption received (Unit {0}) (λ x.
    MatchOption answering (Unit {0}) (λ a. AnswerLaw x.span a.after.fields.preambles a.bytes))
