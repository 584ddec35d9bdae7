use Rattle.std.specs.Prelude.{ℕ, Bool, not, ◌&&◌, ◌==◌}
use Rattle.std.specs.Float.Ieee.{le}
use Rattle.setpoint.specs.Numbers.{minus_zero}
use Rattle.setpoint.specs.Value.{value_of, nought, hundred}

-- Lawful, a term of this project: the setpoint is worth 0 to 100 percent, and its pattern is not that of minus zero.
abbrev pub lawful? : ℕ → Bool
lawful? pattern = le nought (value_of pattern) && le (value_of pattern) hundred && not (pattern == minus_zero)
