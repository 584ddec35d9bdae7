use Rattle.std.specs.Prelude.{ℕ, ◌*◌, if◌then◌else◌, not, ◌||◌, Ok, Err, Result, is_nan, nat_lt, Float}
use Rattle.std.specs.Float.Ieee.{lt}
use Rattle.std.specs.Float.{float_is_finite}
use Rattle.setpoint.specs.declared.SetpointRefusal.{SetpointRefusal}
use Rattle.setpoint.specs.declared.SetpointRefusal.TheVariants.{NotANumber, AboveCeiling, BelowZero}
use Rattle.setpoint.specs.Load.{load_of}
use Rattle.setpoint.specs.Numbers.{parts_of_a_percent}
use Rattle.setpoint.specs.Value.{nought}

-- The number by which a refusal is answered.
abbrev pub code_of : SetpointRefusal → ℕ
code_of NotANumber = 2
code_of AboveCeiling = 3
code_of BelowZero = 4

-- The load of a setpoint under a ceiling in whole percent, or why the setpoint is refused.
abbrev pub admitted_under : ℕ → Float → Result ℕ SetpointRefusal
admitted_under percent x =
    if is_nan x then Err NotANumber
    else if lt x nought then Err BelowZero
    else if not (float_is_finite x) || nat_lt (percent * parts_of_a_percent) (load_of x) then Err AboveCeiling
    else Ok (load_of x)
