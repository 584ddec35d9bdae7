use Rattle.std.proofs.Common.{◌≡◌, take}
use Rattle.frame.specs.Check.{check_of}
use Rattle.frame.proofs.checks.check.Given as goal

abbrev pub invariant-loop-byte : goal.invariant-loop-byte
invariant-loop-byte l = l.check ≡ check_of (take l.byte-index l.bytes)
