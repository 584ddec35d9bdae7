use Rattle.std.proofs.Common.{rules, ◌+◌, arith}
use Rattle.serving.proofs.Texts.{byte_is, text_is}
use Rattle.serving.proofs.reading.text_from.Goals as goal

pub returns : goal.returns
returns g c = λ r is.
    let records = g.R.Rack.records c.args.rack.now in
    let lawful = g.met.R.Rack.lawful c.args.rack.now in
    text_is records c.args.channel lawful r is c.from_fn.result c.args.at g.row.N c.requires c.from_fn.ensures.items
    (λ i y q l k. (search rules, search (rules, byte_is records c.args.channel lawful r is (c.args.at + i) (omega arith))))
