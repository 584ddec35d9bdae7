use Rattle.std.proofs.Common.{◌≡◌, ◌*◌, take, length}
use Rattle.hexdigits.specs.Hex.{hex_of}
use Rattle.hexdigits.proofs.put_digits.Given as goal

abbrev pub invariant-loop-i : goal.invariant-loop-i
invariant-loop-i l = (take (2 * l.i) l.digits ≡ hex_of (take l.i l.part)) × (length l.digits ≡ 128)
