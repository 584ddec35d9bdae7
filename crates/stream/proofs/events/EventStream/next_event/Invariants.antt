use Rattle.std.proofs.Common.{◌≡◌, ℕ, ◌<◌, ◌≤◌, List, length}
use Rattle.stream.specs.Streams.{unread_of, view_of, WrittenOut, NoneLost, Streams}
use Rattle.stream.proofs.events.EventStream.next_event.Given as goal

-- No event is complete yet, and as many bytes are unread as there were turns. From the first read on the lines are written.
abbrev pub invariant-loop : goal.invariant-loop
invariant-loop g l =
    (l.counter ≤ 12)
    × (l.counter ≤ length (unread_of l.self))
    × ((events : List (List ℕ)) (rest out : List ℕ) → Streams g.R.Read.remaining g.W.Write.contents (view_of l.initial.self) events rest out → Streams g.R.Read.remaining g.W.Write.contents (view_of l.self) events rest out)
    × (l.counter ≡ 0 → l.self ≡ l.initial.self)
    × (0 < l.counter → (length (unread_of l.initial.self) < 12) × WrittenOut g.W.Write.contents (view_of l.initial.self) (view_of l.self))
    × NoneLost g.R.Read.remaining (view_of l.initial.self) (view_of l.self)
