-- What is printed, in the words of runs: between one set-up that is taken and the next the lines are those of the
-- results of a run for which all is promised, with the lines of looks and of refused events in their places.
use Rattle.std.specs.Prelude.{◌≡◌, ℕ, ◌⊎◌, List, [], ◌∷◌, ◌++◌, Some, None, Ok, Err, slice_get}
use Rattle.header.specs.Shares.{capacity_of}
use Rattle.rack.specs.Files.{file_records}
use Rattle.rack.specs.declared.files.FileFault.{FileFault}
use Rattle.record.specs.declared.Record.{Record}
use Rattle.recording.specs.Events.{calls, pauses, event_asks}
use Rattle.recording.specs.Lines.{refusal_line, rest_line, line_of}
use Rattle.recording.specs.Recordings.{events_of, rest_of}
use Rattle.recording.specs.declared.events.Format.{Format}
use Rattle.recording.specs.declared.events.Pause.TheVariants.{Look, SetUp}
use Rattle.runs.specs.Channel.{flow_channel}
use Rattle.runs.specs.Histories.{pending_after}
use Rattle.runs.specs.SetUps as runs
use Rattle.runs.specs.SetUps.{Promised}
use Rattle.runs.specs.Steps.{Run}
use Rattle.runs.specs.Traces.{Call, Result, Trace, ◌▸◌}
use Rattle.setup.specs.SetUps.{set_up_refusal}
use Rattle.player.specs.Outputs.{look_line, set_up_line}
use Rattle.player.specs.Playing.{play_fault, fault_line, output_of}

-- The calls since a set-up that was taken are a run, from the records then to those now, and all is promised of it.
pub record Since (supply : ℕ) (before : List Record) (trace : Trace flow_channel) (records : List Record) : Type 0 where
  pub set_up : runs.SetUp supply before
  pub ran : Run flow_channel (capacity_of supply) before [] trace records (pending_after flow_channel [] trace)
  pub promised : Promised supply before trace records (pending_after flow_channel [] trace)

-- The events to come, and their lines, where these calls were made since the last set-up that was taken: under this
-- supply, of these records. To the calls each call is added with its result; a set-up that is taken begins with none.
pub data Lines (f : Format) : ℕ → List Record → Trace flow_channel → List (List ℕ) → List ℕ → Type 0 where
  end : {supply : ℕ} {before records : List Record} {trace : Trace flow_channel}
      → Since supply before trace records → Lines f supply before trace [] []
  call : {supply : ℕ} {before : List Record} {trace : Trace flow_channel}
      {event : List ℕ} {events : List (List ℕ)} {lines : List ℕ}
      → (c : Call flow_channel) (x : Result flow_channel) → event_asks f event ≡ Ok (calls c)
      → Lines f supply before (trace ++ ((c ▸ x) ∷ [])) events lines
      → Lines f supply before trace (event ∷ events) (line_of x ++ lines)
  look : {supply : ℕ} {before records : List Record} {trace : Trace flow_channel}
      {event : List ℕ} {events : List (List ℕ)} {lines : List ℕ}
      → (place : ℕ) → event_asks f event ≡ Ok (pauses (Look place)) → Since supply before trace records
      → Lines f supply before trace events lines
      → Lines f supply before trace (event ∷ events) (look_line (slice_get records place) ++ lines)
  out_of_form : {supply : ℕ} {before : List Record} {trace : Trace flow_channel}
      {event : List ℕ} {events : List (List ℕ)} {lines : List ℕ}
      → (number : ℕ) → event_asks f event ≡ Err number
      → Lines f supply before trace events lines
      → Lines f supply before trace (event ∷ events) (refusal_line number ++ lines)
  set_up : {supply : ℕ} {before records : List Record} {trace : Trace flow_channel}
      {event : List ℕ} {events : List (List ℕ)} {lines : List ℕ}
      → (next : ℕ) → event_asks f event ≡ Ok (pauses (SetUp next)) → Since supply before trace records
      → runs.SetUp next records
      → Lines f next records [] events lines
      → Lines f supply before trace (event ∷ events) (set_up_line ++ lines)
  not_set_up : {supply : ℕ} {before records : List Record} {trace : Trace flow_channel}
      {event : List ℕ} {events : List (List ℕ)} {lines : List ℕ}
      → (next number : ℕ) → event_asks f event ≡ Ok (pauses (SetUp next)) → Since supply before trace records
      → set_up_refusal next records ≡ Some number
      → Lines f supply before trace events lines
      → Lines f supply before trace (event ∷ events) (refusal_line number ++ lines)

-- WHAT IS PRINTED, of a supply, a record file and a recording: one line where the file or the set-up is refused; else
-- the lines of the events since the set-up, and that of the rest.
pub data Printed (f : Format) (supply : ℕ) (file input : List ℕ) : List ℕ → Type 0 where
  refused : (fault : FileFault ⊎ ℕ) → play_fault supply file ≡ Some fault
      → Printed f supply file input (fault_line fault)
  played : {lines : List ℕ} → play_fault supply file ≡ None
      → Lines f supply (file_records file) [] (events_of input) lines
      → Printed f supply file input (lines ++ rest_line (rest_of input))

-- every output is printed so
abbrev pub AllPrintedSo : Format → ℕ → List ℕ → Type 0
AllPrintedSo f supply file = (input : List ℕ)
    → Printed f supply file input (output_of f supply file input)
