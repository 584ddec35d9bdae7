use Rattle.std.specs.Prelude.{ℕ, false, pos, from_bits, Float}
use Rattle.std.specs.Float.{fin, binary32}

-- What a pattern of 32 bits is worth: its meaning as IEEE 754 binary32. A setpoint's is in percent.
abbrev pub value_of : ℕ → Float
value_of pattern = from_bits binary32 pattern

-- 0 percent.
abbrev pub nought : Float
nought = fin false 0 (pos 0)

-- 100 percent: 25 * 2 ^ 2.
abbrev pub hundred : Float
hundred = fin false 25 (pos 2)
