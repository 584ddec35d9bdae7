-- Whole and sound transmissions, and how damage is answered.
use Rattle.std.specs.Prelude.{◌≡◌, ℕ, ◌+◌, ◌≤◌, Bool, true, if◌then◌else◌, not, ◌&&◌, ◌↔◌, List, MatchOption, Some, None, Option, ◌==◌, nat_le}
use Rattle.std.specs.List.{AllByRecursion}
use Rattle.std.specs.Result.{result_ok}
use Rattle.frame.specs.Check.{check_of}
use Rattle.frame.specs.Frames.{Parts, RequestFrame, request_frame}
use Rattle.frame.specs.Views.{frame_parts}
use Rattle.frame.specs.declared.Frame.{Frame}
use Rattle.frame.specs.Transmissions.{Request, Transmits, fewest_preambles, span_of}
use Rattle.record.specs.Bytes.{bit?}
use Rattle.line.specs.Characters.{Character, Reception, Keeps, bytes_in, from_start, marked?}

-- the frame of a whole transmission: at least two preambles, a request's frame and nothing more
abbrev pub frame_of : Reception → Option Parts
frame_of x = if nat_le fewest_preambles x.preambles then result_ok (request_frame x.span) else None

-- a frame is told exactly where the transmission is whole: at least two preambles, and a request's frame
-- by the frame relation
abbrev pub TellsWhole : Reception → Option Frame → Type 0
TellsWhole x told =
    MatchOption told ((p : Parts) → fewest_preambles ≤ x.preambles → RequestFrame x.span p → ⊥)
    (λ f. (fewest_preambles ≤ x.preambles) × RequestFrame x.span (frame_parts f))

-- a whole transmission is sound if no character from the start on is marked and its exclusive or is
-- 0
abbrev pub sound? : Reception → Bool
sound? x = x.marks == 0 && check_of x.span == 0

-- the bytes are a sound transmission of some request, and no character from the start on is marked
pub record Sound (characters : List Character) : Type 0 where
  pub request : Request
  pub transmits : Transmits request (bytes_in characters)
  pub unmarked : AllByRecursion (λ c. c.marks ≡ 0) (from_start characters)

-- of a whole transmission of any characters that are kept so, the test tells exactly whether they are
-- sound
abbrev pub TellsSound : Reception → Bool → Type 0
TellsSound x told =
    (characters : List Character) (f : Parts) → Keeps x characters → frame_of x ≡ Some f
    → told ≡ true ↔ Sound characters

-- what every first status of a communication error has, and what each damage adds to it
abbrev pub communication_error : ℕ
communication_error = 128

abbrev pub parity_error : ℕ
parity_error = 64

abbrev pub overrun_error : ℕ
overrun_error = 32

abbrev pub framing_error : ℕ
framing_error = 16

abbrev pub check_error : ℕ
check_error = 8

-- the first status of a communication error: each damage counts once
abbrev pub error_status_by : Bool → Bool → Bool → Bool → ℕ
error_status_by parity overrun framing wrong_check =
    communication_error + (if parity then parity_error else 0)
    + (if overrun then overrun_error else 0) + (if framing then framing_error else 0)
    + (if wrong_check then check_error else 0)

abbrev pub wrong_check? : List ℕ → Bool
wrong_check? span = not (check_of span == 0)

abbrev pub error_status : Reception → ℕ
error_status x =
    error_status_by (bit? x.marks 0) (bit? x.marks 1) (bit? x.marks 2) (wrong_check? x.span)

-- Of any characters that are kept so: each mark is told exactly where some character from the start on
-- has it, and the wrong check exactly where the exclusive or is not 0.
abbrev pub TellsDamage : Reception → ℕ → Type 0
TellsDamage x status =
    (characters : List Character) → Keeps x characters →
    status ≡ error_status_by (marked? 0 characters) (marked? 1 characters) (marked? 2 characters)
    (wrong_check? (span_of (bytes_in characters)))
