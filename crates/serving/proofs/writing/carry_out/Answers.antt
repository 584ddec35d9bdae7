use Rattle.line.specs.Judgements.{edits}
use Rattle.line.specs.Views.{judged}
use Rattle.serving.proofs.Chained.{no_writes, carried_none}
use Rattle.serving.proofs.writing.carry_out.Goals as goal

pub returns-in_default : goal.returns-in_default
returns-in_default g c =
    carried_none g.R.Rack.records g.R.Rack.wrote c.args.channel c.args.fields (edits (judged c.args.judgement)) c.args.rack.now
    (no_writes c.args.judgement c.in_default.not-Accepted)
