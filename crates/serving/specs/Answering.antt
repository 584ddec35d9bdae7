-- The channel that a transmission means, as it is found, and what it does then.
use Rattle.std.specs.Prelude.{◌≡◌, ℕ, List, Some, None, Ok, Option, Result}
use Rattle.std.specs.Option.{option_map, MatchOption}
use Rattle.refusals.specs.declared.Refusal.{Refusal}
use Rattle.frame.specs.Frames.{Parts}
use Rattle.frame.specs.Views.{frame_parts}
use Rattle.rack.specs.Meaning.{channel_of}
use Rattle.rack.specs.Writes.{WriteRelation}
use Rattle.record.specs.declared.Fields.{Fields}
use Rattle.record.specs.declared.Record.{Record}
use Rattle.line.specs.Answers.{AnswersBy}
use Rattle.line.specs.Characters.{Reception}
use Rattle.line.specs.Judgements.{Judgement, Writable}
use Rattle.line.specs.Views.{judged}
use Rattle.line.specs.Whole.{frame_of}
use Rattle.serving.specs.Serving.{Answering, answering_by, answering_to, Serves}
use Rattle.serving.specs.AskedChannels.{fields_of}
use Rattle.serving.specs.declared.answering.Meant.{Meant}
use Rattle.serving.specs.declared.answers.Answer.{Answer}

-- its number, its fields, the frame of the request and the judgement of it
pub record Found : Type 0 where
  pub channel : ℕ
  pub fields : Fields
  pub frame : Parts
  pub judgement : Judgement

abbrev pub view_of : Meant → Found
view_of m = record {
  channel = m.channel;
  fields = m.fields;
  frame = frame_parts m.frame;
  judgement = judged m.judgement;
}

-- there is such a channel with these fields, and nothing that its judgement writes is refused
pub record Ready (records : List Record) (m : Found) : Type 0 where
  pub there : fields_of records m.channel ≡ Some m.fields
  pub writable : Writable m.judgement m.fields

-- what it does, by the record that the rack has of it
abbrev pub answering_of : List Record → Found → Option Answering
answering_of records m =
    option_map (λ r. answering_by m.frame m.channel r m.judgement) (channel_of records m.channel)

-- the frame is the transmission's
abbrev pub FrameOf : Option Reception → Parts → Type 0
FrameOf received f = MatchOption received (Unit {0}) (λ x. frame_of x ≡ Some f)

-- What is found is ready, and does what is to be done; where nothing is found, nothing answers.
abbrev pub Finds : Option ℕ → List Record → Option Reception → Option Found → Type 0
Finds supply records received found =
    MatchOption found (answering_to supply records received ≡ None) (λ m.
    Ready records m × FrameOf received m.frame
    × (answering_of records m ≡ answering_to supply records received))

-- what it does then, with the law of what it answers
pub record Answered {X : Type 0} (records : X → List Record) (wrote : WriteRelation X)
    (f : Parts) (a : Answering) (before after : X) (buffer buffer' : List ℕ)
    (result : Result (Option Answer) Refusal) : Type 0 where
  pub serves : Serves records wrote (Ok (Some a)) before after buffer buffer' result
  pub law : AnswersBy f a.after.fields.preambles a.bytes

abbrev pub Answers : {X : Type 0} (records : X → List Record) (wrote : WriteRelation X)
    → Found → X → X → List ℕ → List ℕ → Result (Option Answer) Refusal → Type 0
Answers records wrote m before after buffer buffer' result =
    (r : Record) → channel_of (records before) m.channel ≡ Some r
    → Answered records wrote m.frame (answering_by m.frame m.channel r m.judgement)
    before after buffer buffer' result
