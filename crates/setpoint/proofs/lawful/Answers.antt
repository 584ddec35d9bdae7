use Rattle.std.proofs.Common.{arith}
use Rattle.setpoint.proofs.Percents.{lawful_laws}
use Rattle.setpoint.proofs.Range.{lawful_range}
use Rattle.setpoint.proofs.lawful.Goals as goal

pub returns : goal.returns
returns c = record { value = lawful_range c.args.pattern (omega arith); laws = lawful_laws c.args.pattern }
