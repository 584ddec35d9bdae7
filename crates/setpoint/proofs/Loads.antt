-- The law of the load, and the load that a setpoint carries.
use Rattle.std.proofs.Common.{◌≡◌, ℕ, ◌*◌, ◌^◌, Bool, true, false, cond, not, ltb, Some, None, Option, refl, ap, ◌∙◌}
use lib.Ieee.{Float, nan, inf, fin, is_nan, lt, up, down}
use lib.Ieee.Fits.{down_pos}
use Rattle.std.specs.Float.{float_is_finite}
use Rattle.std.proofs.lemmas.Bool.{false≢true}
use Rattle.setpoint.specs.Numbers.{parts_of_a_percent}
use Rattle.setpoint.specs.declared.Setpoint.{Setpoint}
use Rattle.setpoint.specs.declared.Setpoint.TheVariants.{NotANumber, BelowZero, Infinite, Load, Overload}
use Rattle.setpoint.specs.Load.{fitting_load, load_of}
use Rattle.setpoint.specs.LoadLaw.{LoadLaw}
use Rattle.setpoint.specs.Setpoints.{setpoint_of}
use Rattle.setpoint.specs.Value.{nought}
use Rattle.setpoint.proofs.Ceiling.{raised_covers, raised_least}

pub load_law : (x : Float) → LoadLaw x
unfolding float_is_finite
load_law nan l = absurd (false≢true l)
load_law (inf s) l = absurd (false≢true l)
load_law (fin s m e) l = (raised_covers (m * up e * parts_of_a_percent) (down e) (down_pos e), λ k h. raised_least (m * up e * parts_of_a_percent) (down e) k (down_pos e) h)

abbrev load_in : Setpoint → Option ℕ
load_in NotANumber = None
load_in BelowZero = None
load_in Infinite = None
load_in (Load n) = Some n
load_in Overload = None

load_in_lem : (x : Float) → load_in (setpoint_of x) ≡ fitting_load x
unfolding float_is_finite is_nan
load_in_lem nan = refl
load_in_lem (inf s) = go (lt (inf s) nought)
  where
    go : (b : Bool) → load_in (cond b BelowZero Infinite) ≡ None
    go true = refl
    go false = refl
load_in_lem (fin s m e) = go (lt (fin s m e) nought) (ltb (load_of (fin s m e)) (2 ^ 32))
  where
    n : ℕ
    n = load_of (fin s m e)

    go : (b f : Bool) → load_in (cond b BelowZero (cond f (Load n) Overload)) ≡ cond (not b) (cond f (Some n) None) None
    go true f = refl
    go false true = refl
    go false false = refl

pub load_of_lem : (x : Float) (r : Setpoint) → r ≡ setpoint_of x → load_in r ≡ fitting_load x
load_of_lem x r e = ap load_in e ∙ load_in_lem x

pub no_load : (r : Setpoint) → ((n : ℕ) → r ≡ Load n → ⊥) → None ≡ load_in r
no_load NotANumber h = refl
no_load BelowZero h = refl
no_load Infinite h = refl
no_load (Load n) h = absurd (h n refl)
no_load Overload h = refl
