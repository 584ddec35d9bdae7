use Rattle.std.proofs.Common.{◌≡◌, ℕ, suc, ◌≤◌, List, ◌++◌, length, Some}
use Rattle.recording.specs.Recordings.{events_of}
use Rattle.player.specs.Outputs.{State}
use Rattle.player.specs.Players.{Stopped}
use Rattle.player.specs.Playing.{Stands, most_room, output_of}
use Rattle.player.proofs.playing.run.Given as goal

-- an event was taken at each turn, the panel is in some state, and the player prints the rest
abbrev pub invariant-loop : goal.invariant-loop
invariant-loop g l =
    (length l.buffer ≡ most_room)
    × ((bytes out : List ℕ) → g.R.Read.remaining l.fn.input ≡ Some bytes → g.W.Write.contents l.fn.output ≡ Some out
    → (l.counter ≤ length (events_of bytes)) × (s : State) × Stands l.panel s × (taken : ℕ) × (l.counter ≤ taken) × Stopped g.R.Read.remaining g.W.Write.contents l.player s (suc taken) (length (events_of bytes)) (out ++ output_of l.fn.format l.fn.supply l.fn.file bytes))
