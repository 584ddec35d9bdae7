-- Between one set-up that is taken and the next the lines are those of the results of a run for which all is promised.
use Rattle.std.proofs.Common.{◌≡◌, ℕ, ◌⊎◌, Bool, true, false, cond, List, [], ◌∷◌, ◌++◌, Option, Result, Some, None, Ok, Err, refl, subst}
use Rattle.std.proofs.lemmas.Bool.{leb-true, ltb-false}
use Rattle.header.specs.Shares.{capacity_of, total_share, fits?}
use Rattle.line.specs.Characters.{Character}
use Rattle.rack.specs.Files.{file_answer, file_records}
use Rattle.rack.specs.Meaning.{most_channels}
use Rattle.rack.specs.declared.files.FileFault.{FileFault}
use Rattle.record.specs.declared.Record.{Record}
use Rattle.recording.specs.Events.{Asked, calls, pauses, event_asks}
use Rattle.recording.specs.Recordings.{events_of}
use Rattle.recording.specs.declared.events.Format.{Format}
use Rattle.recording.specs.declared.events.Pause.TheVariants.{Look, SetUp}
use Rattle.runs.proofs.Runs.{run_append, pending_run}
use Rattle.runs.proofs.SetUps.{promised, calls_follow}
use Rattle.runs.specs.Channel.{flow_channel}
use Rattle.runs.specs.Outcomes.{outcome}
use Rattle.runs.specs.SetUps as runs
use Rattle.runs.specs.Steps.{Run, goes, rests}
use Rattle.runs.specs.Traces.{Trace, ◌▸◌}
use Rattle.setup.proofs.SetUps.{distinct}
use Rattle.setup.specs.SetUps.{any_same_identity?, set_up_refusal}
use Rattle.player.specs.Outputs.{State, set_up_state, set_up_played, lines_of, lines_after}
use Rattle.player.specs.Playing.{first_fault, play_fault, output_for}
use Rattle.player.specs.Sections.{Since, Lines, end, call, look, out_of_form, set_up, not_set_up, Printed, refused, played, AllPrintedSo}

-- a refusal that is none
first_none : (b : Bool) (number : ℕ) (o : Option ℕ) → cond b (Some number) o ≡ None → (b ≡ false) × (o ≡ None)
first_none true number o e = cc
first_none false number o e = (refl, e)

last_none : (b : Bool) (number : ℕ) → ◌≡◌ {A = Option ℕ} (cond b None (Some number)) None → b ≡ true
last_none true number e = refl
last_none false number e = cc

-- a set-up that is not refused is taken
pub set_up_taken : (supply : ℕ) (records : List Record) → set_up_refusal supply records ≡ None → runs.SetUp supply records
set_up_taken supply records e =
    let a = first_none _ 107 _ e in
    let b = first_none _ 104 _ a.1 in
    let c = first_none (any_same_identity? records) 105 _ b.1 in
    let d = last_none (fits? supply (total_share records)) 106 c.1 in
    record {
      supplied = ltb-false _ _ a.0;
      few = ltb-false _ _ b.0;
      distinct = λ j k q r at_j at_k same_type same_number. distinct c.0 at_j at_k (same_type, same_number);
      fits = leb-true _ _ d;
    }

-- what is promised of the calls since then
since : (supply : ℕ) (before records : List Record) (trace : Trace flow_channel) (pending : List Character) → runs.SetUp supply before → Run flow_channel (capacity_of supply) before [] trace records pending → Since supply before trace records
since supply before records trace pending s run =
    let ran = subst (λ (t : List Character). Run flow_channel (capacity_of supply) before [] trace records t) (pending_run flow_channel (capacity_of supply) run) run in
    record { set_up = s; ran = ran; promised = promised supply before records trace _ s ran }

module _ (f : Format) where
  -- the lines of these events, wherever a panel is that was set up
  abbrev AreLines : List (List ℕ) → Type 0
  AreLines events = (s : State) (before : List Record) (trace : Trace flow_channel) → runs.SetUp s.supply before → Run flow_channel (capacity_of s.supply) before [] trace s.records s.pending
      → Lines f s.supply before trace events (lines_of f s events)

  module _ (event : List ℕ) (events : List (List ℕ)) (later : AreLines events) (s : State) (before : List Record) (trace : Trace flow_channel) (taken : runs.SetUp s.supply before) (run : Run flow_channel (capacity_of s.supply) before [] trace s.records s.pending) where
    -- a set-up again
    at_set_up : (next : ℕ) (refusal : Option ℕ) → event_asks f event ≡ Ok (pauses (SetUp next)) → set_up_refusal next s.records ≡ refusal
        → Lines f s.supply before trace (event ∷ events) ((set_up_played s next refusal).line ++ lines_of f (set_up_played s next refusal).after events)
    at_set_up next None e none =
        let again = set_up_taken next s.records none in
        set_up next e (since s.supply before s.records trace s.pending taken run) again (later (set_up_state next s.records) s.records [] again rests)
    at_set_up next (Some number) e is = not_set_up next number e (since s.supply before s.records trace s.pending taken run) is (later s before trace taken run)

    -- an event, by what it asks for
    at_event : (asked : Result Asked ℕ) → event_asks f event ≡ asked → Lines f s.supply before trace (event ∷ events) (lines_after f s asked events)
    at_event (Ok (calls c)) e =
        let o = outcome flow_channel (capacity_of s.supply) s.records s.pending c in
        let more = run_append flow_channel (capacity_of s.supply) run (goes (calls_follow s.supply s.records s.pending c) rests) in
        call c o.result e (later (record s { records = o.rack; pending = o.pending }) before (trace ++ ((c ▸ o.result) ∷ [])) taken more)
    at_event (Ok (pauses (Look place))) e = look place e (since s.supply before s.records trace s.pending taken run) (later s before trace taken run)
    at_event (Ok (pauses (SetUp next))) e = at_set_up next (set_up_refusal next s.records) e refl
    at_event (Err number) e = out_of_form number e (later s before trace taken run)

  are_lines : (events : List (List ℕ)) → AreLines events
  are_lines [] s before trace taken run = end (since s.supply before s.records trace s.pending taken run)
  are_lines (event ∷ events) s before trace taken run = at_event event events (are_lines events) s before trace taken run (event_asks f event) refl

-- where a recording is played its set-up is not refused
not_refused : (answer : Result (Unit {0}) FileFault) (refusal : Option ℕ) → first_fault answer refusal ≡ None → refusal ≡ None
not_refused (Err fault) refusal e = cc
not_refused (Ok u) None e = refl
not_refused (Ok u) (Some number) e = cc

printed_for : (f : Format) (supply : ℕ) (file input : List ℕ) (fault : Option (FileFault ⊎ ℕ)) → play_fault supply file ≡ fault → Printed f supply file input (output_for f supply fault (file_records file) input)
printed_for f supply file input (Some fault) e = refused fault e
printed_for f supply file input None e =
    let records = file_records file in
    let taken = set_up_taken supply records (not_refused (file_answer most_channels file) (set_up_refusal supply records) e) in
    played e (are_lines f (events_of input) (set_up_state supply records) records [] taken rests)

pub all_printed : (f : Format) (supply : ℕ) (file : List ℕ) → AllPrintedSo f supply file
all_printed f supply file input = printed_for f supply file input (play_fault supply file) refl
