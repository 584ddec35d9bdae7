use Rattle.std.proofs.Common.{◌++◌, rules}
use Rattle.std.proofs.ByRecursion.{All-append}
use Rattle.record.specs.Lawful.{Lawful}
use Rattle.rack.specs.Edits.{edit_of}
use Rattle.rack.proofs.Puts.{puts_at}
use Rattle.combined.proofs.Sides.{records_left, records_right}
use Rattle.combined.proofs.side_by_side.SideBySideRack.write.Goals as goal

pub returns-in-Left-clause-after : goal.returns-in-Left-clause-after
returns-in-Left-clause-after g c =
    let s = c.args.self.now in
    records_left (g.L.Rack.records s.left) (g.R.Rack.records s.right) c.args.channel c.in-Left.channel (edit_of c.args.change) _ (rw c.in-Left.is at c.in_ok-channel.ensures.found) c.write.ensures.after

pub returns-in-Right-clause-after : goal.returns-in-Right-clause-after
returns-in-Right-clause-after g c =
    let s = c.args.self.now in
    records_right (g.L.Rack.records s.left) (g.R.Rack.records s.right) c.args.channel c.in-Right.channel (edit_of c.args.change) _ (rw c.in-Right.is at c.in_ok-channel.ensures.found) c.write-in-Right.ensures.after

pub returns-in-Left-clause-puts : goal.returns-in-Left-clause-puts
returns-in-Left-clause-puts g c =
    let l = g.L.Rack.records c.args.self.now.left in
    let r = g.R.Rack.records c.args.self.now.right in
    puts_at (l ++ r) _ c.args.channel (edit_of c.args.change) (All-append Lawful l r (g.met.L.Rack.lawful c.args.self.now.left) (g.met.R.Rack.lawful c.args.self.now.right)) c.write.result (search rules) (returns-in-Left-clause-after g c)

pub returns-in-Right-clause-puts : goal.returns-in-Right-clause-puts
returns-in-Right-clause-puts g c =
    let l = g.L.Rack.records c.args.self.now.left in
    let r = g.R.Rack.records c.args.self.now.right in
    puts_at (l ++ r) _ c.args.channel (edit_of c.args.change) (All-append Lawful l r (g.met.L.Rack.lawful c.args.self.now.left) (g.met.R.Rack.lawful c.args.self.now.right)) c.write-in-Right.result (search rules) (returns-in-Right-clause-after g c)
