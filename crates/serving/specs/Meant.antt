-- The channels of a rack that a request means.
use Rattle.std.specs.Prelude.{◌≡◌, ℕ, ◌≤◌, Bool, false, if◌then◌else◌, ◌&&◌, ◌↔◌, List, length, Some, None, Option, nat_le}
use Rattle.frame.specs.Frames.{Parts}
use Rattle.line.specs.Addressing.{addresses?, tag_means?, tag_of, means?}
use Rattle.line.specs.Requests.{Asked, asked_by}
use Rattle.rack.specs.Meaning.{most_channels, channel_of}
use Rattle.record.specs.declared.Record.{Record}
use Rattle.runs.specs.Places.{At, OnlyAt, only_place}

-- whether a request to this address means the channel with this record, if there is one
abbrev pub asked_of? : List ℕ → Asked → Option Record → Bool
asked_of? address asked (Some r) = addresses? address r.fields && tag_means? asked (tag_of r)
asked_of? address asked None = false

-- of the channel of this number
abbrev pub asked_at? : List ℕ → Asked → List Record → ℕ → Bool
asked_at? address asked records channel = asked_of? address asked (channel_of records channel)

-- what is told of its tag, where there is such a channel
abbrev pub TellsTag : Asked → List Record → ℕ → Bool → Type 0
TellsTag asked records channel told =
    (r : Record) → channel_of records channel ≡ Some r → told ≡ tag_means? asked (tag_of r)

-- whether a frame means it
abbrev pub meant_at? : Parts → List Record → ℕ → Bool
meant_at? f records channel = asked_at? f.address (asked_by f.command f.«data») records channel

-- the one channel that a frame means, if it means just one, of a rack of at most 15
abbrev pub sole_meant : Parts → List Record → Option ℕ
sole_meant f records =
    if nat_le (length records) most_channels then only_place (means? f) records else None

-- a frame means the channel of this number and no other of the rack
pub record MeansOnly (f : Parts) (records : List Record) (channel : ℕ) : Type 0 where
  pub few : length records ≤ most_channels
  pub «record» : Record
  pub at : At records channel «record»
  pub only : OnlyAt (means? f) records channel

-- A channel is told exactly where the frame means it and no other.
abbrev pub ToldExactly : Parts → List Record → Option ℕ → Type 0
ToldExactly f records told = (channel : ℕ) → (told ≡ Some channel) ↔ MeansOnly f records channel
