-- A receiver that holds a transmission.
use Rattle.std.specs.Prelude.{◌≡◌, ◌≢◌, ℕ, ◌<◌, List, [], ◌∷◌, ◌++◌, length, map, replicate, slice_index, Option, if◌then◌else◌}
use Rattle.std.specs.List.{AllByRecursion}
use Rattle.std.specs.Option.{MatchOption}
use Rattle.frame.specs.Transmissions.{preamble}
use Rattle.line.specs.Characters.{Character, Reception, Keeps, received}
use Rattle.receiver.specs.Summaries.{Summary, summary_of, held}
use Rattle.receiver.specs.declared.state.Receiver.{Receiver}

-- these are the characters taken, each of a byte, of which the receiver keeps what matters
pub record Holds (r : Receiver) (t : List Character) : Type 0 where
  pub bytes : AllByRecursion (λ c. c.byte < 256) t
  pub kept : held r ≡ summary_of (received t)

-- a character as `push` is given it
abbrev pub character : ℕ → ℕ → Character
character byte marks = record { byte = byte; marks = marks }

-- whatever the receiver before holds, the one after holds with one character more
abbrev pub HoldsMore : Receiver → Receiver → Character → Type 0
HoldsMore before after c = (t : List Character) → Holds before t → Holds after (t ++ c ∷ [])

abbrev pub unmarked : ℕ → Character
unmarked byte = character byte 0

-- the characters of a span, of which the first has all marks
abbrev pub span_characters : ℕ → List ℕ → List Character
span_characters marks [] = []
span_characters marks (b ∷ bs) = character b marks ∷ map unmarked bs

-- of a span that is too long, with one byte more than is kept
abbrev pub whole_span : Summary → List ℕ
whole_span s = if s.overlong then s.span ++ 0 ∷ [] else s.span

-- the characters that stand for all that a summary may be made of
abbrev pub pending_of : Summary → List Character
pending_of s = replicate s.preambles (unmarked preamble) ++ span_characters s.marks (whole_span s)

-- Characters that a receiver holds: every value of the type holds some.
abbrev pub pending : Receiver → List Character
pending r = pending_of (held r)

-- what is handed on keeps whatever characters the receiver holds
abbrev pub KeepsAll : Receiver → Option Reception → Type 0
KeepsAll r handed =
    MatchOption handed (Unit {0}) (λ x. (t : List Character) → Holds r t → Keeps x t)

-- the span does not begin with a preamble, and marks begin with the span
pub record FromStart (x : Reception) : Type 0 where
  pub begun : 0 < length x.span → slice_index x.span 0 ≢ preamble
  pub unmarked : length x.span ≡ 0 → x.marks ≡ 0
