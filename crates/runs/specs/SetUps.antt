-- A set-up that is taken, and what every run from it promises.
use Rattle.std.specs.Prelude.{◌≡◌, ℕ, ◌≤◌, List, [], ◌∷◌, length}
use Rattle.header.specs.Shares.{capacity_of, total_share}
use Rattle.record.specs.declared.Record.{Record}
use Rattle.rack.specs.Meaning.{most_channels}
use Rattle.line.specs.Characters.{Character}
use Rattle.runs.specs.Channel.{flow_channel}
use Rattle.runs.specs.Histories.{lone}
use Rattle.runs.specs.Laws.{Alike, Kept, calls_of}
use Rattle.runs.specs.Outcomes.{Follows, Determined}
use Rattle.runs.specs.Places.{At}
use Rattle.runs.specs.Steps.{Run}
use Rattle.runs.specs.Traces.{Trace}

-- the largest supply that any header gives, in mL/min
abbrev pub largest_supply : ℕ
largest_supply = 15000000

-- no two channels have the same device type and identification number
abbrev pub Distinct : List Record → Type 0
Distinct records = (j place : ℕ) (q r : Record) → At records j q → At records place r
    → q.fields.device_type ≡ r.fields.device_type → q.fields.identification ≡ r.fields.identification → j ≡ place

-- A set-up is taken under a supply of at most 15,000,000 mL/min, of at most 15 channels, no two with the same identity,
-- whose shares fit.
pub record SetUp (supply : ℕ) (records : List Record) : Type 0 where
  pub supplied : supply ≤ largest_supply
  pub few : length records ≤ most_channels
  pub distinct : Distinct records
  pub fits : total_share records ≤ capacity_of supply

-- THE PROMISE about a run of a panel, since a set-up that was taken under this supply: from the records then, through a
-- trace of calls with their results, to the records and the pending characters after it.
pub record Promised (supply : ℕ) (records : List Record) (trace : Trace flow_channel) (after : List Record)
    (pending : List Character) : Type 0 where
  -- a panel that holds one of the channels alone has its set-up taken
  pub alone : (place : ℕ) (r : Record) → At records place r → SetUp supply (r ∷ [])
  -- no other results, isolation, damage, header, records
  pub kept : Kept flow_channel (capacity_of supply) records trace after pending

abbrev pub RunsPromised : Type 0
RunsPromised = (supply : ℕ) (records after : List Record) (trace : Trace flow_channel) (pending : List Character)
    → SetUp supply records → Run flow_channel (capacity_of supply) records [] trace after pending
    → Promised supply records trace after pending

-- A run of a whole panel, and one of a panel that held one of its channels alone at set-up, under the same supply, with
-- the calls of that channel: the second has the results and the record of that channel.
abbrev pub RunsAlike : Type 0
RunsAlike = (supply : ℕ) (records after : List Record) (trace : Trace flow_channel) (pending : List Character)
    → SetUp supply records → Run flow_channel (capacity_of supply) records [] trace after pending
    → (place : ℕ) (r : Record) → At records place r
    → (alone : Trace flow_channel) (alone_after : List Record) (alone_pending : List Character)
    → Run flow_channel (capacity_of supply) (r ∷ []) [] alone alone_after alone_pending
    → calls_of flow_channel alone ≡ calls_of flow_channel (lone flow_channel place [] trace)
    → Alike flow_channel place trace after alone alone_after

-- from one state one call has exactly one result and one state after
abbrev pub CallsFollow : Type 0
CallsFollow = (supply : ℕ) → Follows flow_channel (capacity_of supply)

abbrev pub CallsDetermined : Type 0
CallsDetermined = (supply : ℕ) → Determined flow_channel (capacity_of supply)
