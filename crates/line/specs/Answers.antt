-- What is said of an answer by its bytes.
use Rattle.std.specs.Prelude.{◌≡◌, ℕ, ◌+◌, ◌≤◌, List, ◌∷◌, length, Option, slice_get, slice_index, slice_index_or}
use Rattle.std.specs.Option.{option_map, option_and_then}
use Rattle.std.specs.Result.{result_ok}
use Rattle.frame.specs.Frames.{Parts, RequestFrame, reply_frame}
use Rattle.frame.specs.Making.{asked}
use Rattle.frame.specs.Transmissions.{Request, Replies, span_of}

-- the most that a reply carries: two status bytes and 24 data bytes
abbrev pub most_carried : ℕ
most_carried = 26

-- the longest answer: 15 preambles, a start, five address bytes, command and count, the most that is
-- carried, and a check
abbrev pub max_answer : ℕ
max_answer = 50

-- the room that is asked for an answer
abbrev pub answer_room : ℕ
answer_room = 64

-- what the frame of a reply carries, and its first status, read from the reply's bytes; none where
-- they are no reply's
abbrev pub content_of : List ℕ → Option (List ℕ)
content_of bytes = option_map (λ f. f.«data») (result_ok (reply_frame (span_of bytes)))

abbrev pub status_of : List ℕ → Option ℕ
status_of bytes = option_and_then (λ content. slice_get content 0) (content_of bytes)

-- the reply to a request's frame, with these status bytes and data
abbrev pub reply_to : Parts → ℕ → ℕ → ℕ → List ℕ → Request
reply_to f preambles status second content =
    asked preambles f.address f.command (status ∷ second ∷ content)

-- THE LAW OF ANSWERS. An answer is its preambles and then a sound frame of the frame relation, with the
-- address and command of the request's frame. Its start is 06 for a request's 02 and 86 for 82, four
-- more each, and its count two more than its data.
pub record AnswerLaw (span : List ℕ) (preambles : ℕ) (bytes : List ℕ) : Type 0 where
  pub request : Parts
  pub status : ℕ
  pub second : ℕ
  pub «data» : List ℕ
  pub whole : RequestFrame span request
  pub sent : Replies (reply_to request preambles status second «data») bytes
  pub start : slice_index_or sent.span 0 0 ≡ slice_index span 0 + 4
  pub count : slice_index_or sent.span (length request.address + 2) 0 ≡ length «data» + 2
  pub short : length bytes ≤ max_answer

-- bytes keep the law of answers, whatever span is framed as these parts
abbrev pub AnswersBy : Parts → ℕ → List ℕ → Type 0
AnswersBy f preambles bytes =
    (span : List ℕ) → RequestFrame span f → AnswerLaw span preambles bytes
