use Rattle.std.proofs.Common.{arith}
use Rattle.setpoint.proofs.Fields.{decodes_subnormal, decodes_normal, decodes_infinite, decodes_nan}
use Rattle.setpoint.proofs.decode.Goals as goal

pub returns-in-0 : goal.returns-in-0
returns-in-0 c = decodes_subnormal c.args.pattern c.in-0.is

pub returns-in-255 : goal.returns-in-255
returns-in-255 c = decodes_infinite c.args.pattern c.in-255.is c.if-fraction-eq0.true

pub returns-in-255-2 : goal.returns-in-255-2
returns-in-255-2 c = decodes_nan c.args.pattern c.in-255.is c.if-fraction-eq0.false

pub returns-in_default : goal.returns-in_default
returns-in_default c = decodes_normal c.args.pattern (λ e. omega arith) (λ e. omega arith)
