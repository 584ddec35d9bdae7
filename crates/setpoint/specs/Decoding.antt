use Rattle.std.specs.Prelude.{◌≡◌, ◌*◌, ◌^◌, ◌<◌, ◌≤◌, Float}
use Rattle.std.specs.Float.{nan, inf}
use Rattle.std.specs.Float.Ieee.Exact.{HasValue}
use Rattle.setpoint.specs.declared.Binary32.{Binary32}
use Rattle.setpoint.specs.declared.Binary32.TheVariants.{NotANumber, Infinite, Finite}

-- The fields of a pattern stand for the value x. A finite one is significand * 2 ^ (exponent - 149),
-- and only with the least exponent may its significand lack the leading digit.
abbrev pub Decodes : Binary32 → Float → Type 0
Decodes NotANumber x = x ≡ nan
Decodes (Infinite negative) x = x ≡ inf negative
Decodes (Finite negative significand exponent) x =
    HasValue x negative (significand * 2 ^ exponent) (2 ^ 149)
    × (significand < 2 ^ 24)
    × (0 < exponent → 2 ^ 23 ≤ significand)
