-- How many channels a panel has.
use Rattle.std.specs.Prelude.{ℕ, ◌≤◌, List, length, IfSome, Option}
use Rattle.record.specs.declared.Record.{Record}
use Rattle.rack.specs.Meaning.{most_channels}

-- once a set-up was taken, the rack means few records
abbrev pub Few : Option ℕ → List Record → Type 0
Few supply records = IfSome supply (λ _. length records ≤ most_channels)
