-- A finite value and its pattern.
use Rattle.std.proofs.Common.{◌≡◌, ℕ, ◌^◌, ◌<◌, true, not, T, arith}
use lib.Ieee.{Float, nan, inf, fin, binary32, fits, is_nan}
use lib.Ieee.Bits.{is_true, of_bits-fits, of_bits-to_bits, to_bits-lt, to_bits-of_bits}
use Rattle.std.specs.Float.{float_is_finite}
use Rattle.setpoint.specs.Value.{value_of}
use Rattle.record.specs.Readings.{pattern_of, FiniteBinary32}

finite_number : (x : Float) → float_is_finite x ≡ true → T (not (is_nan x))
unfolding float_is_finite is_nan
finite_number nan e = let z : ◌≡◌ {A = ℕ} 0 1 = cc in absurd (omega arith)
finite_number (inf s) e = tt
finite_number (fin s m f) e = tt

pub finite_value : (pattern : ℕ) → float_is_finite (value_of pattern) ≡ true → FiniteBinary32 (value_of pattern)
finite_value pattern e = (e, is_true (fits binary32 (value_of pattern)) (of_bits-fits binary32 pattern))

pub pattern_value : (pattern : ℕ) → pattern < 2 ^ 32 → float_is_finite (value_of pattern) ≡ true → pattern_of (value_of pattern) ≡ pattern
pattern_value pattern h e = to_bits-of_bits binary32 pattern h (finite_number (value_of pattern) e)

pub value_pattern : (x : Float) → fits binary32 x ≡ true → value_of (pattern_of x) ≡ x
value_pattern x e = of_bits-to_bits binary32 x (rw e tt)

pub pattern_limit : (x : Float) → fits binary32 x ≡ true → pattern_of x < 2 ^ 32
pattern_limit x e = to_bits-lt binary32 x (rw e tt)
