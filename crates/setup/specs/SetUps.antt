-- Why a set-up is refused.
use Rattle.std.specs.Prelude.{ℕ, Bool, false, if◌then◌else◌, ◌&&◌, ◌||◌, List, [], ◌∷◌, length, drop, Some, None, Option, Result, ◌+◌, ◌==◌, nat_le, nat_lt}
use Rattle.std.specs.List.{list_any}
use Rattle.std.specs.Option.{option_map}
use Rattle.std.specs.Result.{result_err}
use Rattle.header.specs.Shares.{total_share, fits?}
use Rattle.rack.specs.Meaning.{channel_of, most_channels}
use Rattle.record.specs.declared.Fields.{Fields}
use Rattle.record.specs.declared.Record.{Record}
use Rattle.refusals.specs.Refusals.{number_of}
use Rattle.refusals.specs.declared.Refusal.{Refusal}
use Rattle.refusals.specs.declared.Refusal.TheVariants.{Supply, NumberOfRecords, SameIdentity, OverSupply}
use Rattle.runs.specs.SetUps.{largest_supply}

-- The identity of a channel is its device type and its identification number.
abbrev pub same_identity? : Fields → Fields → Bool
same_identity? f g = f.device_type == g.device_type && f.identification == g.identification

-- whether the channel of a number has this identity; false where there is none
abbrev pub record_has? : Fields → Option Record → Bool
record_has? f (Some r) = same_identity? f r.fields
record_has? f None = false

abbrev pub identity_at? : Fields → List Record → ℕ → Bool
identity_at? f records channel = record_has? f (channel_of records channel)

-- whether some channel has this identity
abbrev pub among? : Fields → List Record → Bool
among? f records = list_any (λ r. same_identity? f r.fields) records

-- whether one of the later channels has the identity of the channel of a number; false where there is none
abbrev pub record_among? : List Record → Option Record → Bool
record_among? later (Some r) = among? r.fields later
record_among? later None = false

abbrev pub same_identity_later? : List Record → ℕ → Bool
same_identity_later? records channel = record_among? (drop (channel + 1) records) (channel_of records channel)

-- whether some two channels have the same identity
abbrev pub any_same_identity? : List Record → Bool
any_same_identity? [] = false
any_same_identity? (r ∷ records) = among? r.fields records || any_same_identity? records

-- whether the channels are not too many and their shares fit
abbrev pub shares_fit? : ℕ → List Record → Bool
shares_fit? supply records = nat_le (length records) most_channels && fits? supply (total_share records)

-- the number by which a call is refused, if it is
abbrev pub refusal_in : Result (Unit {0}) Refusal → Option ℕ
refusal_in result = option_map number_of (result_err result)

-- The number by which a set-up is refused, if it is. Tried in this order: the supply is above the largest, there are
-- too many channels, two have the same identity, the shares do not fit.
abbrev pub set_up_refusal : ℕ → List Record → Option ℕ
set_up_refusal supply records =
    if nat_lt largest_supply supply then Some (number_of Supply)
    else if nat_lt most_channels (length records) then Some (number_of NumberOfRecords)
    else if any_same_identity? records then Some (number_of SameIdentity)
    else if fits? supply (total_share records) then None
    else Some (number_of OverSupply)
