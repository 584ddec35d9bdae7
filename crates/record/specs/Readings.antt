-- The readings of a channel as IEEE 754 binary32 values.
use Rattle.std.specs.Prelude.{◌≡◌, ℕ, Bool, true, ◌&&◌, to_bits, Float}
use Rattle.std.specs.Float.Ieee.{fits}
use Rattle.std.specs.Float.{float_is_finite, binary32}
use Rattle.record.specs.declared.readings.Reading.{Reading}

-- The pattern of a value; of a NaN, the quiet one without a sign, 7FC00000 hexadecimal.
abbrev pub pattern_of : Float → ℕ
pattern_of x = to_bits binary32 x

-- Whether both values of a reading are finite.
abbrev pub finite? : Reading → Bool
finite? reading = float_is_finite reading.flow && float_is_finite reading.temperature

-- A finite value of binary32.
abbrev pub FiniteBinary32 : Float → Type 0
FiniteBinary32 x = (float_is_finite x ≡ true) × (fits binary32 x ≡ true)

-- Both values of a reading are finite.
abbrev pub FiniteReading : Reading → Type 0
FiniteReading reading = FiniteBinary32 reading.flow × FiniteBinary32 reading.temperature
