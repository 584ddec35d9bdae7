-- Traces of a panel: calls with their results, since a set-up that was taken.
use Rattle.std.specs.Prelude.{ℕ, List, Some, None, Option}
use Rattle.runs.specs.Devices.{Device}

module _ (D : Device) where
  abbrev pub Rack : Type 0
  Rack = List D.Record

  -- the pending characters: those taken since the last taken gap, or since set-up
  abbrev pub Pending : Type 0
  Pending = List D.Character

  -- a character, a gap with a buffer of some length, a local operation on a channel: any number each
  pub data Call : Type 0 where
    character : D.Character → Call
    gap : ℕ → Call
    local : ℕ → D.Operation → Call

  -- taken; refused by a number; at a gap silent, or answered by a channel
  pub data Result : Type 0 where
    taken : Result
    refused : ℕ → Result
    silent : Result
    answered : ℕ → D.Answer → Result

  -- a call with its result
  pub record Interaction : Type 0 where
    pub call : Call
    pub result : Result

  abbrev pub Trace : Type 0
  Trace = List Interaction

module _ {D : Device} where
  infix 70 ◌▸◌
  abbrev pub ◌▸◌ : Call D → Result D → Interaction D
  c ▸ result = record { call = c; result = result }

  -- the result of a local operation that is refused by a number, or by none
  abbrev pub local_result : Option ℕ → Result D
  local_result (Some n) = refused n
  local_result None = taken
