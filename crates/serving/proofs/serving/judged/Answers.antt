use Rattle.std.proofs.Common.{refl, sym, ◌∙◌}
use Rattle.line.specs.Views.{reception}
use Rattle.serving.proofs.Finding.{fields_there, finds}
use Rattle.serving.proofs.serving.judged.Goals as goal

pub returns : goal.returns
returns g c =
    finds {s = c.args.supply} {x = reception c.args.received} refl refl c.requires.framed c.requires.sole
    (fields_there c.fields.result c.in_ok-fields.fields _ c.fields.ensures (sym c.ok.ensures.value ∙ c.in_ok-fields.was)) c.judge.ensures.value c.judge.ensures.writable
