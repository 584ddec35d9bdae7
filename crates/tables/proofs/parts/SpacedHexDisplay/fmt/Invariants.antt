use Rattle.std.proofs.Common.{[], ◌∷◌, take}
use Rattle.std.specs.Fmt.{HasWritten, IsPlainFormatter}
use Rattle.std.specs.List.{flat_map}
use Rattle.hexdigits.specs.Hex.{hex_of}
use Rattle.tables.proofs.parts.SpacedHexDisplay.fmt.Given as goal

abbrev pub invariant-loop-byte : goal.invariant-loop-byte
invariant-loop-byte g l =
    IsPlainFormatter l.initial.f → HasWritten g.W.Write.write_str_gives l.initial.f (flat_map (λ b. 32 ∷ hex_of (b ∷ [])) (take l.byte-index l.rest)) l.f
