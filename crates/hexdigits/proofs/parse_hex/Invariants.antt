use Rattle.std.proofs.Common.{◌≡◌, drop, vec_items}
use Rattle.hexdigits.proofs.Reading.{after, in_pairs}
use Rattle.hexdigits.proofs.parse_hex.Given as goal

abbrev pub invariant-loop-pair : goal.invariant-loop-pair
invariant-loop-pair l = after (vec_items l.bytes) (in_pairs (drop l.pair-index l.pairs)) ≡ in_pairs l.pairs
