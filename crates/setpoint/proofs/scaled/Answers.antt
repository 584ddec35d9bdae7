use Rattle.std.proofs.Common.{arith}
use Rattle.setpoint.proofs.Scaling.{by_division, by_shift, past_32_bits}
use Rattle.setpoint.proofs.scaled.Goals as goal

pub returns-then-exponent-lt-LOAD_EXPONENT : goal.returns-then-exponent-lt-LOAD_EXPONENT
returns-then-exponent-lt-LOAD_EXPONENT c =
    by_division c.args.significand c.args.exponent c.min-places.result c.requires.digits c.if-exponent-lt-LOAD_EXPONENT.true c.min-places.ensures

pub returns-then-exponent-lt-OVERLOAD_EXPONENT : goal.returns-then-exponent-lt-OVERLOAD_EXPONENT
returns-then-exponent-lt-OVERLOAD_EXPONENT c =
    by_shift c.args.significand c.args.exponent c.requires.digits c.if-exponent-lt-LOAD_EXPONENT.false c.if-exponent-lt-OVERLOAD_EXPONENT.true

pub returns-else-exponent-lt-OVERLOAD_EXPONENT : goal.returns-else-exponent-lt-OVERLOAD_EXPONENT
returns-else-exponent-lt-OVERLOAD_EXPONENT c =
    past_32_bits c.args.significand c.args.exponent (c.requires.leading (omega arith)) c.if-exponent-lt-OVERLOAD_EXPONENT.false
