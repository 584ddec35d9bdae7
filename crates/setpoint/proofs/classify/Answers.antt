use Rattle.std.proofs.Common.{◌≡◌, true, false, ◌∙◌, arith}
use Rattle.std.proofs.lemmas.Grind.{common_steps}
use Rattle.setpoint.specs.Value.{value_of}
use Rattle.setpoint.proofs.Finite.{negative_setpoint, loaded, loaded_setpoint, nan_setpoint, infinite_setpoint}
use Rattle.setpoint.proofs.classify.Goals as goal

pub returns-in-NotANumber : goal.returns-in-NotANumber
returns-in-NotANumber c = nan_setpoint (value_of c.args.pattern) c.in-NotANumber.ensures

pub returns-then-negative : goal.returns-then-negative
returns-then-negative c = infinite_setpoint (value_of c.args.pattern) c.in-Infinite.negative true c.in-Infinite.ensures c.if-negative.true

pub returns-else-negative : goal.returns-else-negative
returns-else-negative c = infinite_setpoint (value_of c.args.pattern) c.in-Infinite.negative false c.in-Infinite.ensures c.if-negative.false

pub returns-then-significand-gt0 : goal.returns-then-significand-gt0
returns-then-significand-gt0 c =
    negative_setpoint (value_of c.args.pattern) c.in-Finite.negative c.in-Finite.significand c.in-Finite.exponent c.in-Finite.ensures.0
    c.if-negative-2.true c.if-significand-gt0.true

pub returns-else-negative-2 : goal.returns-else-negative-2
returns-else-negative-2 c =
    let e : c.map_or.result ≡ loaded c.scaled.result = grind (arith, common_steps) in
    e ∙ loaded_setpoint (value_of c.args.pattern) c.in-Finite.negative c.in-Finite.significand c.in-Finite.exponent c.scaled.result c.in-Finite.ensures.0 c.else-negative-2.either c.scaled.ensures
