use Rattle.std.proofs.Common.{ap}
use Rattle.shelf.specs.Rows.{records_in}
use Rattle.shelf.specs.declared.shelf.Shelf.{Shelf}
use Rattle.player.proofs.playing.play.Goals as goal

pub returns-clause-played : goal.returns-clause-played
returns-clause-played g c = record {
  trace = c.in_ok-work.ensures.worked.trace;
  driven = c.in_ok-work.ensures.worked.driven;
  left = c.in_ok-work.ensures.worked.left;
  underway = rw (← c.in_ok-fill.ensures.after, ← ap (λ (s : Shelf). records_in s.rows.items) c.new-panel.ensures.rack) c.in_ok-work.ensures.worked.underway;
}
