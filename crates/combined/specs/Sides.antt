-- Which of two racks side by side a channel is of.
use Rattle.std.specs.Prelude.{◌≡◌, ℕ, ◌-◌, ◌<◌, ◌≤◌, if◌then◌else◌, List, ◌++◌, length, Ok, Err, Result, nat_le, nat_lt}
use Rattle.record.specs.declared.Record.{Record}
use Rattle.rack.specs.Edits.{Edit}
use Rattle.rack.specs.Meaning.{channel_of, last_channel}
use Rattle.rack.specs.Refusals.{no_channel}
use Rattle.rack.specs.Writes.{WriteRelation}
use Rattle.combined.specs.declared.side_by_side.Side.{Side}
use Rattle.combined.specs.declared.side_by_side.Side.TheVariants.{Left, Right}

-- the channel's number there, where the left rack tells a number of records
abbrev pub routed : ℕ → ℕ → Result Side ℕ
routed left channel =
    if nat_le channel last_channel
    then if nat_lt channel left then Ok (Left channel) else Ok (Right (channel - left))
    else Err no_channel

-- the channel of both is that of one of them, which its number tells
abbrev pub FoundAt : List Record → List Record → ℕ → Side → Type 0
FoundAt l r channel (Left c) =
    (channel_of (l ++ r) channel ≡ channel_of l c) × (c ≡ channel) × (channel < length l)
FoundAt l r channel (Right c) =
    (channel_of (l ++ r) channel ≡ channel_of r c) × (c ≡ channel - length l) × (length l ≤ channel)

-- A write goes through the rack of its channel, once, and the other is the same value. Where no rack has the channel both
-- are.
abbrev pub wrote_beside : {X Y : Type 0} → WriteRelation X → WriteRelation Y → Result Side ℕ
    → X → X → Y → Y → Edit → Result (Unit {0}) ℕ → Type 0
wrote_beside left right (Ok (Left c)) l l' r r' edit answer = left l l' c edit answer × (r' ≡ r)
wrote_beside left right (Ok (Right c)) l l' r r' edit answer = (l' ≡ l) × right r r' c edit answer
wrote_beside left right (Err number) l l' r r' edit answer = (l' ≡ l) × (r' ≡ r) × (answer ≡ Err number)
