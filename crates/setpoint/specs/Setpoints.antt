use Rattle.std.specs.Prelude.{◌^◌, if◌then◌else◌, not, is_nan, nat_lt, Float}
use Rattle.std.specs.Float.Ieee.{lt}
use Rattle.std.specs.Float.{float_is_finite}
use Rattle.setpoint.specs.declared.Setpoint.{Setpoint}
use Rattle.setpoint.specs.declared.Setpoint.TheVariants.{NotANumber, BelowZero, Infinite, Load, Overload}
use Rattle.setpoint.specs.Value.{nought}
use Rattle.setpoint.specs.Load.{load_of}

-- What a value is as a setpoint. Minus infinity is below zero, minus zero is not.
abbrev pub setpoint_of : Float → Setpoint
setpoint_of x =
    if is_nan x then NotANumber
    else if lt x nought then BelowZero
    else if not (float_is_finite x) then Infinite
    else if nat_lt (load_of x) (2 ^ 32) then Load (load_of x)
    else Overload
