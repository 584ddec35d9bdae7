-- The numbers of a rack's refusals.
use Rattle.std.specs.Prelude.{ℕ, Ok, Err, Result}
use Rattle.refusals.specs.Refusals as refusals
use Rattle.refusals.specs.declared.Refusal.TheVariants.{NoChannel, Reading, OutOfForm}
use Rattle.rack.specs.declared.refusal.RackRefusal.{RackRefusal}
use Rattle.rack.specs.declared.refusal.RackRefusal.TheVariants.{InvalidSelection, TooLarge, TooSmall, Call}

-- Response codes of the line.
abbrev pub invalid_selection : ℕ
invalid_selection = 2

abbrev pub too_large : ℕ
too_large = 3

abbrev pub too_small : ℕ
too_small = 4

-- Numbers of refused calls.
abbrev pub no_channel : ℕ
no_channel = refusals.number_of NoChannel

abbrev pub no_reading : ℕ
no_reading = refusals.number_of Reading

abbrev pub out_of_form : ℕ
out_of_form = refusals.number_of OutOfForm

abbrev pub number_of : RackRefusal → ℕ
number_of InvalidSelection = invalid_selection
number_of TooLarge = too_large
number_of TooSmall = too_small
number_of (Call refusal) = refusals.number_of refusal

-- an answer with the refusal's number in the place of the refusal
abbrev pub numbered : {X : Type 0} → Result X RackRefusal → Result X ℕ
numbered (Ok x) = Ok x
numbered (Err e) = Err (number_of e)
