-- What a receiver keeps of the characters of a transmission.
use Rattle.std.specs.Prelude.{ℕ, ◌+◌, min, Bool, true, ◌&&◌, List, [], ◌∷◌, ◌++◌, length, take, Some, None, Option, ◌==◌, bit_or, nat_lt, if◌then◌else◌}
use Rattle.std.specs.Option.{is_none}
use Rattle.frame.specs.Frames.{longest_frame}
use Rattle.frame.specs.Transmissions.{preamble, fewest_preambles}
use Rattle.line.specs.Characters.{Character, Reception}
use Rattle.line.specs.Marks.{marks_number}
use Rattle.receiver.specs.Spans.{kept_length}
use Rattle.receiver.specs.declared.state.Receiver.{Receiver}

-- Two preambles are as good as more, and of the bytes from the start on 264 are kept: a longer
-- transmission is not whole.
pub record Summary : Type 0 where
  pub preambles : ℕ
  pub span : List ℕ
  pub overlong : Bool
  pub marks : ℕ

abbrev pub summary_of : Reception → Summary
summary_of x = record {
  preambles = min x.preambles fewest_preambles;
  span = take longest_frame x.span;
  overlong = nat_lt longest_frame (length x.span);
  marks = x.marks;
}

-- one character more: a preamble while the start has not come, else a byte of the span
abbrev pub more : Reception → Character → Reception
more x c =
    if length x.span == 0 && c.byte == preamble
    then record x { preambles = x.preambles + 1 }
    else record x { span = x.span ++ c.byte ∷ []; marks = bit_or x.marks c.marks }

abbrev pub pushed : Summary → Character → Summary
pushed s c =
    if length s.span == 0 && c.byte == preamble
    then record s { preambles = min (s.preambles + 1) fewest_preambles }
    else (if nat_lt (length s.span) longest_frame
    then record s { span = s.span ++ c.byte ∷ []; marks = bit_or s.marks c.marks }
    else record s { overlong = true; marks = bit_or s.marks c.marks })

-- what the receiver of the code holds: all its bytes, where more came
abbrev pub held : Receiver → Summary
held r = record {
  preambles = r.preambles;
  span = take (kept_length r.len) r.bytes;
  overlong = is_none r.len;
  marks = marks_number r.marks;
}

-- what is handed on of a transmission that is not too long
abbrev pub handed_on : Summary → Option Reception
handed_on s =
    if s.overlong then None
    else Some (record { preambles = s.preambles; span = s.span; marks = s.marks })
