use Rattle.std.proofs.Common.{◌≡◌, ◌++◌, take, length}
use Rattle.hexdigits.specs.Hex.{hex_of}
use Rattle.hexdigits.proofs.push_parts.Given as goal

abbrev pub invariant-loop-rest : goal.invariant-loop-rest
invariant-loop-rest l =
    (l.text.items ++ hex_of l.rest ≡ l.initial.text.items ++ hex_of l.bytes) × (take (length l.initial.text.items) l.text.items ≡ l.initial.text.items)

abbrev pub decreases-loop-rest : goal.decreases-loop-rest
decreases-loop-rest l = length l.rest
