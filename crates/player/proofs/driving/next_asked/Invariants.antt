use Rattle.std.proofs.Common.{ℕ, ◌+◌, List}
use Rattle.stream.specs.Streams.{view_of}
use Rattle.player.specs.Outputs.{State, lines_of}
use Rattle.player.specs.Players.{Prints}
use Rattle.player.proofs.driving.next_asked.Given as goal

-- an event was taken at each turn, asked for nothing, and its line is told
abbrev pub invariant-loop : goal.invariant-loop
invariant-loop g l =
    (s : State) (taken most : ℕ) (total : List ℕ) → Prints g.R.Read.remaining g.W.Write.contents (view_of l.initial.stream) (lines_of l.fn.format s) taken most total
    → Prints g.R.Read.remaining g.W.Write.contents (view_of l.stream) (lines_of l.fn.format s) (l.counter + taken) most total
