-- Answers to questions about setpoints as they are printed.
use Rattle.std.specs.Prelude.{ℕ, Bool, true, false, List, ◌++◌, codes, Some, None, Ok, Err, Option, Result}
use Rattle.std.specs.Fmt.{decimal}
use Rattle.std.specs.Int.{w32, to_be_bytes}
use Rattle.hexdigits.specs.Hex.{hex_of}
use Rattle.setpoint.specs.Refusals.{code_of}
use Rattle.setpoint.specs.declared.SetpointRefusal.{SetpointRefusal}
use Rattle.setpoint.specs.declared.Setpoint.{Setpoint}
use Rattle.setpoint.specs.declared.Setpoint.TheVariants.{NotANumber, BelowZero, Infinite, Load, Overload}

abbrev pub classified_text : Setpoint → List ℕ
classified_text NotANumber = codes "nan"
classified_text BelowZero = codes "below zero"
classified_text Infinite = codes "infinite"
classified_text Overload = codes "overload"
classified_text (Load load) = codes "load " ++ decimal load

abbrev pub admitted_text : Result ℕ SetpointRefusal → List ℕ
admitted_text (Ok load) = codes "load " ++ decimal load
admitted_text (Err refusal) = codes "refused " ++ decimal (code_of refusal)

abbrev pub yes_no_text : Bool → List ℕ
yes_no_text true = codes "yes"
yes_no_text false = codes "no"

-- a pattern as eight digits
abbrev pub units_text : Option ℕ → List ℕ
units_text (Some units) = hex_of (to_be_bytes w32 units)
units_text None = codes "none"
