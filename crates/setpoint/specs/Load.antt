use Rattle.std.specs.Prelude.{ℕ, ◌*◌, ◌^◌, Bool, if◌then◌else◌, not, ◌&&◌, Some, None, Option, nat_lt, Float}
use Rattle.std.specs.Float.Ieee.{lt, up, down}
use Rattle.std.specs.Float.{float_is_finite, ratio_ceil, nan, inf, fin}
use Rattle.setpoint.specs.Numbers.{parts_of_a_percent}
use Rattle.setpoint.specs.Value.{nought}

-- The load of a setpoint, a term of this project: the least whole number that is not below its value times 1,024.
-- A value m * 2 ^ e is the fraction m * up e / down e, and `ratio_ceil` divides and rounds up.
-- What is not finite has no load, and 0 stands in its place. What is below zero has none either: here it gets that of its
-- magnitude, which counts only where `has_load?` holds.
abbrev pub load_of : Float → ℕ
load_of nan = 0
load_of (inf s) = 0
load_of (fin s m e) = ratio_ceil (m * up e * parts_of_a_percent) (down e)

-- Only a finite value that is not below zero has a load; minus zero is not below zero.
abbrev pub has_load? : Float → Bool
has_load? x = float_is_finite x && not (lt x nought)

-- n, where it fits 32 bits.
abbrev pub fitting : ℕ → Option ℕ
fitting n = if nat_lt n (2 ^ 32) then Some n else None

-- The load of the size significand * 2 ^ (exponent - 149), where it fits 32 bits.
abbrev pub size_load : ℕ → ℕ → Option ℕ
size_load significand exponent = fitting (ratio_ceil (significand * 2 ^ exponent * parts_of_a_percent) (2 ^ 149))

-- The load of a value that has one and whose load fits 32 bits.
abbrev pub fitting_load : Float → Option ℕ
fitting_load x = if has_load? x then fitting (load_of x) else None
