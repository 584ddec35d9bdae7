use Rattle.line.specs.Views.{edits_in}
use Rattle.serving.proofs.Chained.{no_edits, carried_none, carried_on}
use Rattle.serving.proofs.writing.make.Goals as goal

pub returns-then-is_none-2 : goal.returns-then-is_none-2
returns-then-is_none-2 g c =
    let changes = c.args.changes in
    carried_none g.R.Rack.records g.R.Rack.wrote c.args.channel c.args.fields (edits_in changes) c.args.rack.now
    (no_edits changes.field changes.flag _ _ c.is_none.ensures c.if-is_none.true c.is_none-then-is_none.ensures c.if-is_none-2.true)

pub returns : goal.returns
returns g c =
    carried_on g.R.Rack.records g.R.Rack.wrote c.args.channel c.args.fields (edits_in c.args.changes) c.args.rack.now c.write_both.new.rack c.fields.result c.unwrap_or.result
    c.write_both.ensures c.fields.ensures c.unwrap_or.ensures
