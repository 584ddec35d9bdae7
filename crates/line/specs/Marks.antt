-- The marks of a character.
use Rattle.std.specs.Prelude.{ℕ, ◌+◌, if◌then◌else◌, Ok, Err, Result, nat_le}
use Rattle.refusals.specs.Refusals.{number_of}
use Rattle.refusals.specs.declared.Refusal.TheVariants.{Marks as BadMarks}
use Rattle.line.specs.declared.marks.Marks.{Marks}

-- their sum: 1 parity, 2 overrun, 4 framing
abbrev pub marks_number : Marks → ℕ
marks_number m =
    (if m.parity then 1 else 0) + (if m.overrun then 2 else 0) + (if m.framing then 4 else 0)

-- all three marks
abbrev pub all_marks : ℕ
all_marks = 7

-- the marks of which a byte is the sum, 109 where it is none
abbrev pub marks_in : ℕ → Result ℕ ℕ
marks_in byte = if nat_le byte all_marks then Ok byte else Err (number_of BadMarks)
