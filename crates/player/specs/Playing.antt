-- What playing a recording on the shelf of a record file does.
use Rattle.std.specs.Prelude.{◌≡◌, ℕ, true, ◌⊎◌, List, [], ◌++◌, length, Some, None, Ok, Err, Option, Result, OnOk}
use Rattle.std.proofs.Common.{inl, inr}
use Rattle.std.specs.Option.{option_map}
use Rattle.std.specs.declared.alloc.AllocError.{AllocError}
use Rattle.panel.specs.Panels.{records_in}
use Rattle.panel.specs.Working.{Driven, Underway, buffer_after}
use Rattle.panel.specs.declared.driver.Driver as drivers
use Rattle.panel.specs.declared.state.Panel.{Panel}
use Rattle.rack.specs.Files.{refusal_of, file_answer, file_records}
use Rattle.rack.specs.Meaning.{most_channels}
use Rattle.rack.specs.declared.files.FileFault.{FileFault}
use Rattle.rack.specs.declared.racks.Rack.{Ghosts}
use Rattle.record.specs.declared.Record.{Record}
use Rattle.recording.specs.Events.{pauses}
use Rattle.recording.specs.Lines.{refusal_line, rest_line}
use Rattle.recording.specs.declared.events.Format.{Format}
use Rattle.recording.specs.declared.events.Pause.{Pause}
use Rattle.recording.specs.declared.events.Pause.TheVariants.{Look, SetUp as PauseSetUp}
use Rattle.recording.specs.Recordings.{events_of, rest_of}
use Rattle.refusals.specs.Refusals.{number_of}
use Rattle.refusals.specs.declared.Refusal.{Refusal}
use Rattle.runs.specs.Channel.{flow_channel}
use Rattle.runs.specs.Histories.{pending_after}
use Rattle.runs.specs.Traces.{Trace}
use Rattle.setup.specs.SetUps.{set_up_refusal}
use Rattle.stream.specs.Streams.{View, view_of, with_told}
use Rattle.player.specs.Outputs.{State, set_up_state, lines_of, lines_after}
use Rattle.player.specs.Players.{Prints}
use Rattle.player.specs.declared.driving.Player.{Player}
use Rattle.player.specs.declared.playing.PlayFault.{PlayFault}
use Rattle.player.specs.declared.playing.PlayFault.TheVariants.{File, SetUp}
use Rattle.player.specs.declared.progress.Progress.TheVariants.{Going}

-- the most room that an event asks for
abbrev pub most_room : ℕ
most_room = 255

-- how a fault is refused
abbrev pub play_refusal : PlayFault → Refusal
play_refusal (File fault) = refusal_of fault
play_refusal (SetUp refusal) = refusal

-- the fault of the file whole, or the number by which the set-up is refused
abbrev pub fault_seen : PlayFault → FileFault ⊎ ℕ
fault_seen (File fault) = inl fault
fault_seen (SetUp refusal) = inr (number_of refusal)

-- which of the two a recording is not played by, if any: that of the file is tried first
abbrev pub first_fault : Result (Unit {0}) FileFault → Option ℕ → Option (FileFault ⊎ ℕ)
first_fault (Err fault) refusal = Some (inl fault)
first_fault (Ok u) refusal = option_map inr refusal

-- the same of a supply and a record file
abbrev pub play_fault : ℕ → List ℕ → Option (FileFault ⊎ ℕ)
play_fault supply file =
    first_fault (file_answer most_channels file) (set_up_refusal supply (file_records file))

module _ {Dr : Type 0} (D : drivers.Ghosts Dr) (d d' : Dr) (buffer buffer' : List ℕ) where
  -- The run that was played: a panel over a rack of the records was set up, and worked by the driver, with a buffer.
  -- Of the trace of these calls the whole promise holds.
  pub record Played {X : Type 0} {G : Ghosts X} (supply : ℕ) (records : List Record) (panel : Panel X G)
      : Type 0 where
    pub trace : Trace flow_channel
    pub driven : Driven D.names D.hears (length buffer) D.ends d trace d'
    pub left : buffer' ≡ buffer_after trace buffer
    pub underway : Underway supply records trace panel

module _ {X : Type 0} {G : Ghosts X} where
  -- A panel that was set up is in this state. Of the trace of all calls since then the whole promise holds.
  pub record Stands (panel : Panel X G) (s : State) : Type 0 where
    pub before : List Record
    pub trace : Trace flow_channel
    pub underway : Underway s.supply before trace panel
    pub records_are : s.records ≡ records_in panel
    pub pending_is : s.pending ≡ pending_after flow_channel [] trace

module _ {R W : Type 0} (remaining : R → Option (List ℕ)) (contents : W → Option (List ℕ))
    {X : Type 0} {G : Ghosts X} where
  -- What a recording waited for is done: the panel is in some state, on which the events to come print the rest.
  pub record Attended (p : Player R W) (panel : Panel X G) (taken most : ℕ) (total : List ℕ)
      : Type 0 where
    pub state : State
    pub stands : Stands panel state
    pub prints : Prints remaining contents (view_of p.stream) (lines_of p.format state) taken most total

  -- What a player prints that waits for this, once it is to be done with a panel in some state.
  abbrev pub Waits : Player R W → Panel X G → Pause → State → ℕ → ℕ → List ℕ → Type 0
  Waits p panel pause s taken most total = Stands panel s
      × Prints remaining contents (view_of p.stream) (lines_after p.format s (Ok (pauses pause))) taken most total

  -- From a player that waits for this, on a panel in any state, to one that goes on.
  pub record Attends (p p' : Player R W) (panel panel' : Panel X G) (pause : Pause)
      (result : Result (Unit {0}) AllocError) : Type 0 where
    pub goes : p'.progress ≡ Going
    pub format : p'.format ≡ p.format
    pub prints : (s : State) (taken most : ℕ) (total : List ℕ) → Waits p panel pause s taken most total
        → OnOk result (Attended p' panel' taken most total)

  -- The same of a look at a channel, which leaves the panel as it is.
  abbrev pub LooksAt : Player R W → Player R W → Panel X G → ℕ → Result (Unit {0}) AllocError → Type 0
  LooksAt p p' panel place result = (s : State) (taken most : ℕ) (total : List ℕ)
      → Waits p panel (Look place) s taken most total
      → OnOk result (Prints remaining contents (view_of p'.stream) (lines_of p'.format s) taken most total)

  -- The same of a set-up again.
  abbrev pub SetsUp : Player R W → Player R W → Panel X G → Panel X G → ℕ
      → Result (Unit {0}) AllocError → Type 0
  SetsUp p p' panel panel' supply result = (s : State) (taken most : ℕ) (total : List ℕ)
      → Waits p panel (PauseSetUp supply) s taken most total
      → OnOk result (Attended p' panel' taken most total)

-- the line of a refusal waits too
abbrev pub with_refusal : {R W : Type 0} → Refusal → View R W → View R W
with_refusal refusal v = with_told true (refusal_line (number_of refusal)) v

-- the line of a fault that a recording is not played by
abbrev pub fault_line : FileFault ⊎ ℕ → List ℕ
fault_line (inl fault) = refusal_line (number_of (refusal_of fault))
fault_line (inr number) = refusal_line number

-- what is printed where a recording is not played by a fault, or else is: the lines of the events, and that of the rest
abbrev pub output_for : Format → ℕ → Option (FileFault ⊎ ℕ) → List Record → List ℕ → List ℕ
output_for f supply (Some fault) records input = fault_line fault
output_for f supply None records input =
    lines_of f (set_up_state supply records) (events_of input) ++ rest_line (rest_of input)

-- WHAT A RECORDING PRINTS: of its format, its supply, the bytes of the record file, and its own bytes
abbrev pub output_of : Format → ℕ → List ℕ → List ℕ → List ℕ
output_of f supply file input =
    output_for f supply (play_fault supply file) (file_records file) input

-- what is written behind what a writer held, where a recording is played
abbrev pub output_behind : List ℕ → Format → ℕ → List ℕ → List ℕ → Option (List ℕ)
output_behind out f supply file input = Some (out ++ output_of f supply file input)
