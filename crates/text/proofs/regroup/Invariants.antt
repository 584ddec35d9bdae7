use Rattle.std.proofs.Common.{◌≡◌, ◌*◌, ◌++◌, drop}
use Rattle.text.specs.Groups.{grouped}
use Rattle.text.proofs.regroup.Given as goal

abbrev pub invariant-loop-i : goal.invariant-loop-i
invariant-loop-i g l = l.out ≡ grouped l.i g.row.N g.C.Code.coded l.fn.from ++ drop (l.i * g.row.M) l.initial.out
