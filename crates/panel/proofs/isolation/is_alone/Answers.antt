use Rattle.panel.proofs.Alone.{isolates}
use Rattle.panel.proofs.isolation.is_alone.Goals as goal

pub returns-clause-isolates : goal.returns-clause-isolates
returns-clause-isolates g c = isolates c.args.panel.now c.args.channel c.args.lone.now c.compare.result c.compare.ensures
