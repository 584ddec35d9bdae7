-- The shares of the channels in what the supply header can give.
use Rattle.std.specs.Prelude.{ℕ, ◌+◌, ◌*◌, Bool, if◌then◌else◌, List, [], ◌∷◌, length, Some, None, Ok, Err, Option, Result, nat_le}
use Rattle.refusals.specs.Refusals.{number_of}
use Rattle.refusals.specs.declared.Refusal.TheVariants.{NumberOfRecords}
use Rattle.setpoint.specs.Load.{load_of}
use Rattle.setpoint.specs.Numbers.{full_load, most_full_scale}
use Rattle.setpoint.specs.Share.{share_of}
use Rattle.setpoint.specs.Value.{value_of}
use Rattle.record.specs.declared.Fields.{Fields}
use Rattle.record.specs.declared.Record.{Record}
use Rattle.rack.specs.Meaning.{channel_of, most_channels}

-- the share of a channel: the load of its setpoint times its full scale. What flows does not count.
abbrev pub fields_share : Fields → ℕ
fields_share f = share_of (load_of (value_of f.setpoint)) f.full_scale

-- the share of the channel of a number, 0 where there is none
abbrev pub option_share : Option Record → ℕ
option_share (Some r) = fields_share r.fields
option_share None = 0

abbrev pub share_at : List Record → ℕ → ℕ
share_at records channel = option_share (channel_of records channel)

-- the most that one lawful channel draws: the largest load times the largest full scale
abbrev pub most_share : ℕ
most_share = full_load * most_full_scale

-- the sum of all shares
abbrev pub total_share : List Record → ℕ
total_share [] = 0
total_share (r ∷ records) = fields_share r.fields + total_share records

-- the number by which a rack of more than 15 records is refused
abbrev pub too_many : ℕ
too_many = number_of NumberOfRecords

-- the sum that a rack answers, 104 where it has more than 15 records
abbrev pub rack_share : List Record → Result ℕ ℕ
rack_share records = if nat_le (length records) most_channels then Ok (total_share records) else Err too_many

-- the most that shares may sum up to: the supply, in mL/min, times 102,400, the load of 100 percent
abbrev pub capacity_of : ℕ → ℕ
capacity_of supply = supply * full_load

-- shares fit while their sum is at most the supply's capacity
abbrev pub fits? : ℕ → ℕ → Bool
fits? supply total = nat_le total (capacity_of supply)
