use Rattle.std.proofs.Common.{sym, ◌∙◌}
use Rattle.serving.proofs.Records.{told_ok, record_is}
use Rattle.serving.proofs.reading.record_of.Goals as goal

pub returns : goal.returns
returns g c =
    let records = g.R.Rack.records c.args.rack.now in
    let f = c.in_ok-ok.field-0 in
    let m = c.in_ok-ok-2.field-0 in
    record_is records c.args.channel (g.met.R.Rack.lawful c.args.rack.now) f m c.text_from.result
    (told_ok c.fields.result f _ c.fields.ensures (sym c.ok.ensures.value ∙ c.in_ok-ok.was)) (told_ok c.reading.result m _ c.reading.ensures (sym c.ok-2.ensures.value ∙ c.in_ok-ok-2.was)) c.text_from.ensures
