-- What the structs of the code say, with lists in the place of references.
use Rattle.std.specs.Prelude.{ℕ, ◌≤◌, true, List, ◌++◌, length, take, IfOk, Result}
use Rattle.std.specs.Option.{option_map, option_to_list}
use Rattle.refusals.specs.Filling.{Fills}
use Rattle.refusals.specs.Refusals.{numbered}
use Rattle.refusals.specs.declared.Refusal.{Refusal}
use Rattle.frame.specs.Views.{frame_parts}
use Rattle.frame.specs.declared.Frame.{Frame}
use Rattle.record.specs.declared.Record.{Record}
use Rattle.line.specs.Answers.{AnswersBy, max_answer}
use Rattle.rack.specs.Edits.{Edit, edit_of}
use Rattle.line.specs.Characters.{Reception}
use Rattle.line.specs.Judgements.{Judgement, damaged, refused, accepted, answer_bytes}
use Rattle.line.specs.Marks.{marks_number}
use Rattle.line.specs.Requests.{Asked, tag_question, text_write, number_write, bare}
use Rattle.line.specs.declared.changes.Changes.{Changes}
use Rattle.line.specs.declared.judgements.Judgement.{Judgement as JudgementOfCode}
use Rattle.line.specs.declared.judgements.Judgement.TheVariants.{CommunicationError, Refused, Accepted}
use Rattle.line.specs.declared.reception.Received.{Received}
use Rattle.line.specs.declared.requests.Request.{Request}
use Rattle.line.specs.declared.requests.Request.TheVariants.{TagQuestion, TextWrite, NumberWrite, Bare}

abbrev pub seen : Request → Asked
seen (TagQuestion tag) = tag_question tag.now
seen (TextWrite command text) = text_write command text.now
seen (NumberWrite command number) = number_write command number.now
seen (Bare number) = bare number

abbrev pub reception : Received → Reception
reception r = record { preambles = r.preambles; span = r.span.now; marks = marks_number r.marks }

abbrev pub judged : JudgementOfCode → Judgement
judged (CommunicationError status) = damaged status
judged (Refused code) = refused code
judged (Accepted command) = accepted command.command command.«data».now

-- the edits of these changes, in the order in which they are made
abbrev pub edits_in : Changes → List Edit
edits_in c =
    option_to_list (option_map edit_of c.field) ++ option_to_list (option_map edit_of c.flag)

-- the answer to a frame by a judgement, from the channel's record after the writes
abbrev pub answer_to : Frame → JudgementOfCode → Record → List ℕ
answer_to f j r = answer_bytes (frame_parts f) (judged j) r

-- a call that makes it in the front of a lent buffer: 102 where that is too short, and no other refusal
abbrev pub MakesAnswer : Frame → JudgementOfCode → Record → List ℕ → Result ℕ Refusal → List ℕ → Type 0
MakesAnswer f j r before result after = Fills true (answer_to f j r) before (numbered result) after

abbrev pub ShortAnswer : Frame → JudgementOfCode → Record → Type 0
ShortAnswer f j r = length (answer_to f j r) ≤ max_answer

-- what it made is by the law of answers, to a frame, with the preambles of this record
abbrev pub KeepsAnswerLaw : Frame → Record → Result ℕ Refusal → List ℕ → Type 0
KeepsAnswerLaw f r result after =
    IfOk result (λ n. AnswersBy (frame_parts f) r.fields.preambles (take n after))
