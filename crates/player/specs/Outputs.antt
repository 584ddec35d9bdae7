-- What a recording prints, event by event.
use Rattle.std.specs.Prelude.{ℕ, List, [], ◌∷◌, ◌++◌, codes, Some, None, Option, Ok, Err, Result, slice_get}
use Rattle.header.specs.Shares.{capacity_of}
use Rattle.hexdigits.specs.Hex.{hex_of}
use Rattle.line.specs.Characters.{Character}
use Rattle.record.specs.Layout.{encoded}
use Rattle.record.specs.declared.Record.{Record}
use Rattle.recording.specs.Events.{Asked, calls, pauses, event_asks}
use Rattle.rack.specs.Refusals.{no_channel}
use Rattle.recording.specs.Lines.{line_feed, refusal_line, line_of}
use Rattle.recording.specs.declared.events.Format.{Format}
use Rattle.recording.specs.declared.events.Pause.TheVariants.{Look, SetUp}
use Rattle.runs.specs.Channel.{flow_channel}
use Rattle.runs.specs.Outcomes.{Outcome, outcome}
use Rattle.setup.specs.SetUps.{set_up_refusal}

-- a panel that was set up: its supply, its records, and the characters since the last taken gap
pub record State : Type 0 where
  pub supply : ℕ
  pub records : List Record
  pub pending : List Character

-- just set up: nothing is pending
abbrev pub set_up_state : ℕ → List Record → State
set_up_state supply records = record { supply = supply; records = records; pending = [] }

-- an event that was played: its line, and the panel after it
pub record EventPlayed : Type 0 where
  pub line : List ℕ
  pub after : State

-- the line of a look at a channel, if there is one: its record's bytes
abbrev pub look_line : Option Record → List ℕ
look_line (Some r) = hex_of (encoded r) ++ line_feed ∷ []
look_line None = refusal_line no_channel

-- the line of a set-up again that is taken
abbrev pub set_up_line : List ℕ
set_up_line = codes "set up" ++ line_feed ∷ []

-- a call, by its one outcome
abbrev pub call_played : State → Outcome flow_channel → EventPlayed
call_played s o = record {
  line = line_of o.result;
  after = record s { records = o.rack; pending = o.pending };
}

-- a set-up again under a supply: taken, a new transmission begins; refused, the panel stays
abbrev pub set_up_played : State → ℕ → Option ℕ → EventPlayed
set_up_played s supply None = record { line = set_up_line; after = set_up_state supply s.records }
set_up_played s supply (Some number) = record { line = refusal_line number; after = s }

-- what an event asks for; one that asks for nothing is refused
abbrev pub played : State → Result Asked ℕ → EventPlayed
played s (Ok (calls c)) =
    call_played s (outcome flow_channel (capacity_of s.supply) s.records s.pending c)
played s (Ok (pauses (Look place))) =
    record { line = look_line (slice_get s.records place); after = s }
played s (Ok (pauses (SetUp supply))) =
    set_up_played s supply (set_up_refusal supply s.records)
played s (Err number) = record { line = refusal_line number; after = s }

-- the lines of events, one after another
abbrev pub lines_of : Format → State → List (List ℕ) → List ℕ
lines_of f s [] = []
lines_of f s (event ∷ events) =
    let p = played s (event_asks f event) in
    p.line ++ lines_of f p.after events

-- the line of what an event asks for, and the lines of the events after it
abbrev pub lines_after : Format → State → Result Asked ℕ → List (List ℕ) → List ℕ
lines_after f s asked events =
    let p = played s asked in
    p.line ++ lines_of f p.after events
