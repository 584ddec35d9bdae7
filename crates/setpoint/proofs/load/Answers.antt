use Rattle.std.proofs.Common.{◌∙◌}
use Rattle.setpoint.specs.Value.{value_of}
use Rattle.setpoint.proofs.Loads.{load_law, load_of_lem, no_load}
use Rattle.setpoint.proofs.load.Goals as goal

pub returns-in-Load : goal.returns-in-Load
returns-in-Load c = record { value = load_of_lem (value_of c.args.pattern) _ c.in-Load.ensures; least = load_law (value_of c.args.pattern) }

pub returns-in_default : goal.returns-in_default
returns-in_default c = record { value = no_load c.classify.result c.in_default.not-Load ∙ load_of_lem (value_of c.args.pattern) c.classify.result c.classify.ensures; least = load_law (value_of c.args.pattern) }
