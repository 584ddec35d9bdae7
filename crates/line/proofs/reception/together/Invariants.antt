use Rattle.std.proofs.Common.{◌≡◌, take, map, fold}
use lib.Bits.{bit_or}
use Rattle.line.specs.Marks.{marks_number}
use Rattle.line.proofs.reception.together.Given as goal

abbrev pub invariant-loop-mark : goal.invariant-loop-mark
invariant-loop-mark l = marks_number l.all ≡ fold bit_or 0 (map marks_number (take l.mark-index l.marks))
