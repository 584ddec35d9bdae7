use Rattle.std.specs.Prelude.{ℕ, Bool, if◌then◌else◌, ◌&&◌, pos, Some, None, Option, nat_le, to_bits, Float}
use Rattle.std.specs.Float.{binary32}
use Rattle.std.specs.Float.Ieee.{mul, div, of_int}
use Rattle.setpoint.specs.Lawful.{lawful?}
use Rattle.setpoint.specs.Numbers.{most_full_scale}
use Rattle.setpoint.specs.Value.{value_of, hundred}

-- Percent times full scale, then divided by 100, in binary32: each of the two is rounded once.
abbrev pub units_of : Float → ℕ → Float
units_of percent scale = div binary32 (mul binary32 percent (of_int binary32 (pos scale))) hundred

-- A full scale is a whole number of mL/min from 1 to 1,000,000.
abbrev pub full_scale? : ℕ → Bool
full_scale? scale = nat_le 1 scale && nat_le scale most_full_scale

-- The pattern of a lawful setpoint in the units of a full scale.
abbrev pub in_units : ℕ → ℕ → Option ℕ
in_units pattern scale =
    if lawful? pattern && full_scale? scale then Some (to_bits binary32 (units_of (value_of pattern) scale)) else None
