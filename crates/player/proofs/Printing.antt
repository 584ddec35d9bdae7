-- What is printed in all, one event after another.
use Rattle.std.proofs.Common.{◌≡◌, ℕ, suc, ◌+◌, ◌≤◌, nat_lt, leb, min, Bool, true, false, cond, List, [], ◌∷◌, ◌++◌, length, Option, Result, Some, None, Ok, Err, IsErrAnd, IfOk, IfErr, MatchResult, inl, inr, sym, refl, ap, ◌∙◌, subst, append_assoc, arith}
use Rattle.std.proofs.Math.Nat.{min-eq_left, min-eq_right}
use Rattle.std.proofs.lemmas.Bool.{leb-true, leb-false, le-ltb}
use Rattle.std.proofs.lemmas.List.{length-append}
use Rattle.header.specs.Shares.{capacity_of}
use Rattle.line.specs.Characters.{Character}
use Rattle.panel.specs.Working.{within, Drives, begins, goes, Driven}
use Rattle.record.specs.declared.Record.{Record}
use Rattle.recording.specs.Events.{Asked, event_asks}
use Rattle.recording.specs.Lines.{rest_line, line_of}
use Rattle.recording.specs.declared.events.Format.{Format}
use Rattle.runs.proofs.Outcomes.{determined}
use Rattle.runs.proofs.Runs.{run_split}
use Rattle.runs.specs.Channel.{flow_channel}
use Rattle.runs.specs.Outcomes.{Outcome, outcome, outcome_of, sole, ended}
use Rattle.runs.specs.Steps.{Run, goes as goes_run, rests}
use Rattle.runs.specs.Traces.{Call, Interaction, Trace, character, gap, local, refused, ◌▸◌}
use Rattle.stream.proofs.Views.{line_told, held}
use Rattle.stream.specs.Interruptions.{countless, CanInterrupt, OfStream}
use Rattle.stream.specs.Streams.{View, view_of, with_told, OutputHolds, Next, one, end}
use Rattle.stream.specs.declared.interruption.Interruption.{Interruption}
use Rattle.stream.specs.declared.interruption.Interruption.TheVariants.{Memory, Stream, Endless}
use Rattle.player.specs.Outputs.{State, call_played, lines_of, lines_after}
use Rattle.player.specs.Players.{Hears, line_waits, short, Prints, AllPrinted, Names, Stopped, Ends}
use Rattle.player.specs.Progress.{going?}
use Rattle.player.specs.declared.driving.Player.{Player}
use Rattle.player.specs.declared.progress.Progress.{Progress}
use Rattle.player.specs.declared.progress.Progress.TheVariants.{Going, Waiting, Ended, Interrupted}

-- what can interrupt a recording of no events can interrupt any
pub any : (most : ℕ) (i : Interruption) → CanInterrupt 0 i → CanInterrupt most i
any most Endless h = omega arith
any most (Memory e) h = tt
any most (Stream k) h = tt

-- so can what comes of reading and writing
pub of_stream : (most : ℕ) (i : Interruption) → OfStream i → CanInterrupt most i
of_stream most Endless h = absurd h
of_stream most (Memory e) h = absurd h
of_stream most (Stream k) h = tt

-- a player that goes, and one that does not
pub is_going : (q : Progress) → true ≡ going? q → q ≡ Going
is_going Going h = refl
is_going (Waiting pause) h = cc
is_going Ended h = cc
is_going (Interrupted i) h = cc

-- what holds of a result that is taken
pub if_ok : {T E : Type 0} (r : Result T E) (P Q : T → Type 0) → ((x : T) → P x → Q x) → IfOk r P → IfOk r Q
if_ok (Ok x) P Q f p = f x p
if_ok (Err e) P Q f p = p

-- a result by its two cases
pub both : {T : Type 0} (most : ℕ) (r : Result T Interruption) (P : T → Type 0) → IfOk r P → IfErr r (CanInterrupt 0) → MatchResult r P (CanInterrupt most)
both most (Ok x) P p h = p
both most (Err i) P p h = any most i h

-- an interruption that is handed on
pub handed_on : {T : Type 0} (most : ℕ) (r : Result T Interruption) (i : Interruption) (P : T → Type 0) → IsErrAnd r (λ e. e ≡ i) → CanInterrupt most i → MatchResult r P (CanInterrupt most)
handed_on most (Ok x) i P is h = absurd is
handed_on most (Err e) i P is h = subst (CanInterrupt most) (sym is) h

module _ {R W : Type 0} (remaining : R → Option (List ℕ)) (contents : W → Option (List ℕ)) where
  -- where it may be that more events were taken, it may be that fewer were
  pub fewer : {v : View R W} (lines : List (List ℕ) → List ℕ) (less taken most : ℕ) (total : List ℕ) → less ≤ taken → Prints remaining contents v lines taken most total → Prints remaining contents v lines less most total
  fewer lines less taken most total l p = record { events = p.events; rest = p.rest; out = p.out; streams = p.streams; few = (let k = p.few in omega arith); all = p.all }

  -- a line that was told is printed
  pub line_printed : (v v' : View R W) (kept? : Bool) (line : List ℕ) (lines : List (List ℕ) → List ℕ) (taken most : ℕ) (total : List ℕ)
      → v' ≡ with_told kept? line v → kept? ≡ true
      → Prints remaining contents v (λ events. line ++ lines events) taken most total → Prints remaining contents v' lines taken most total
  line_printed v v' kept? line lines taken most total e k p = record {
    events = p.events;
    rest = p.rest;
    out = p.out ++ line;
    streams = line_told remaining contents v v' kept? line p.events p.rest p.out e k p.streams;
    few = p.few;
    all = p.all ∙ (ap (λ l. p.out ++ l) (append_assoc line (lines p.events) (rest_line p.rest)) ∙ sym (append_assoc p.out line (lines p.events ++ rest_line p.rest)));
  }

  module _ {v v' : View R W} (f : Format) (state : State) (taken most : ℕ) (total : List ℕ) (p : Prints remaining contents v (lines_of f state) taken most total) where
    -- no event is to come
    pub at_end : Next remaining contents v' p.events p.rest p.out None → AllPrinted remaining contents v' total
    at_end (end streams e) = record {
      events = p.events;
      rest = p.rest;
      out = p.out;
      streams = streams;
      ends = e;
      all = p.all ∙ ap (λ events. p.out ++ (lines_of f state events ++ rest_line p.rest)) e.none;
    }

    -- an event, by what it asks for
    pub at_event : (event : List ℕ) (asked : Result Asked ℕ) → asked ≡ event_asks f event → Next remaining contents v' p.events p.rest p.out (Some event) → Prints remaining contents v' (lines_after f state asked) (suc taken) most total
    at_event event asked is (one {later = later} first streams) = record {
      events = later;
      rest = p.rest;
      out = p.out;
      streams = streams;
      few = (let k = p.few in omega (arith, ap length first));
      all = p.all ∙ (ap (λ events. p.out ++ (lines_of f state events ++ rest_line p.rest)) first ∙ ap (λ a. p.out ++ (lines_after f state a later ++ rest_line p.rest)) (sym is));
    }

  -- what a writer holds that holds all
  pub all_held : (v : View R W) (total : List ℕ) (output : W) → AllPrinted remaining contents v total → OutputHolds contents (with_told true (rest_line v.unread) v) output → contents output ≡ Some total
  all_held v total output a h =
      let line = rest_line v.unread in
      held remaining contents (with_told true line v) output a.events a.rest (a.out ++ line) h (line_told remaining contents v (with_told true line v) true line a.events a.rest a.out refl refl a.streams)
      ∙ ap (λ l. Some l) (ap (λ r. a.out ++ rest_line r) (sym a.ends.left_over) ∙ sym a.all)

  -- where a player stands in the midst of calls
  abbrev Goes : Progress → View R W → (List (List ℕ) → List ℕ) → ℕ → ℕ → List ℕ → Type 0
  Goes Going v lines taken most total = Prints remaining contents v lines taken most total
  Goes (Waiting pause) v lines taken most total = ⊥
  Goes Ended v lines taken most total = ⊥
  Goes (Interrupted i) v lines taken most total = CanInterrupt most i

  -- with a buffer of 64 bytes and more a gap has the outcome of the room that was asked for
  roomy : (room : ℕ) → 64 ≤ room → (s : State) (c : Call flow_channel) → outcome flow_channel (capacity_of s.supply) s.records s.pending c ≡ outcome flow_channel (capacity_of s.supply) s.records s.pending (within room c)
  roomy room h s (character c) = refl
  roomy room h s (gap n) = ap (λ (short? : Bool). cond short? (outcome_of flow_channel (refused 102) s.records s.pending) (ended flow_channel (capacity_of s.supply) s.records s.pending (sole flow_channel s.records s.pending))) (short_in (leb n room) refl)
    where
      short_in : (b : Bool) → leb n room ≡ b → nat_lt n 64 ≡ nat_lt (min n room) 64
      short_in true e = rw (min-eq_left (leb-true n room e)) refl
      short_in false e =
          let l : room ≤ n = (let k = leb-false n room e in omega arith) in
          let z : 64 ≤ n = omega arith in
          rw (min-eq_right l, le-ltb n 64 z, le-ltb room 64 h) refl
  roomy room h s (local k u) = refl

  abbrev standing : ℕ → List Record → List Character → State
  standing supply records pending = record { supply = supply; records = records; pending = pending }

  -- a call that was heard: its line is printed, or want of memory interrupts the player
  was_heard : {p p' : Player R W} {e : Interaction flow_channel} (lines : List (List ℕ) → List ℕ) (taken most : ℕ) (total : List ℕ) → p.progress ≡ Going → Hears p p' e
      → Prints remaining contents (view_of p.stream) (λ events. line_of e.result ++ lines events) taken most total → Goes p'.progress (view_of p'.stream) lines taken most total
  was_heard {p} {p'} {e} lines taken most total g (line_waits f k v) prints =
      rw (k ∙ g) (line_printed (view_of p.stream) (view_of p'.stream) true (line_of e.result) lines taken most total v refl prints)
  was_heard lines taken most total g (short f k n v) prints = rw k tt

  format_heard : {p p' : Player R W} {e : Interaction flow_channel} → Hears p p' e → p'.format ≡ p.format
  format_heard (line_waits f k v) = f
  format_heard (short f k n v) = f

  -- what a player printed that drove a run
  pub printed : (room supply : ℕ) → 64 ≤ room → {p p' : Player R W} {records records' : List Record} {pending pending' : List Character} {trace : Trace flow_channel}
      → Drives (Names remaining contents) (λ d d' e. Hears d d' e) room p trace p' → Run flow_channel (capacity_of supply) records pending trace records' pending'
      → (taken most : ℕ) (total : List ℕ) → p.progress ≡ Going → Prints remaining contents (view_of p.stream) (lines_of p.format (standing supply records pending)) taken most total
      → Goes p'.progress (view_of p'.stream) (lines_of p'.format (standing supply records' pending')) (taken + length trace) most total
  printed room supply h {p = p} {records = records} {pending = pending} begins rests taken most total going prints =
      let none : taken ≡ taken + 0 = omega arith in
      rw going (subst (λ n. Prints remaining contents (view_of p.stream) (lines_of p.format (standing supply records pending)) n most total) none prints)
  printed room supply h {records' = records'} {pending' = pending'} (goes {trace} {d₁} {d₂} {d₃} {c} {x} drives named told) run taken most total going prints =
      let capacity = capacity_of supply in
      let s = run_split flow_channel capacity trace ((within room c ▸ x) ∷ []) run in
      let before = printed room supply h drives s.until taken most total going prints in
      let o : outcome flow_channel capacity s.rack s.pending c ≡ outcome_of flow_channel x records' pending' = roomy room h (standing supply s.rack s.pending) c ∙ last s.onward in
      let on : Prints remaining contents (view_of d₁.stream) (lines_of d₁.format (standing supply s.rack s.pending)) (taken + length trace) most total =
      subst (λ (q : Progress). Goes q (view_of d₁.stream) (lines_of d₁.format (standing supply s.rack s.pending)) (taken + length trace) most total) named.went before in
      let named' = named.prints (standing supply s.rack s.pending) (taken + length trace) most total on in
      let told' = was_heard (lines_of d₁.format (standing supply records' pending')) (suc (taken + length trace)) most total named.goes told
      (subst (λ (o : Outcome flow_channel). Prints remaining contents (view_of d₂.stream) (λ events. (call_played (standing supply s.rack s.pending) o).line ++ lines_of d₁.format (call_played (standing supply s.rack s.pending) o).after events) (suc (taken + length trace)) most total) o named') in
      let more : suc (taken + length trace) ≡ taken + length (trace ++ ((within room c ▸ x) ∷ [])) = omega (arith, length-append trace ((within room c ▸ x) ∷ [])) in
      subst (λ n. Goes d₃.progress (view_of d₃.stream) (lines_of d₃.format (standing supply records' pending')) n most total) more (rw (format_heard told ∙ named.format) told')
    where
      last : {rs : List Record} {t : List Character} → Run flow_channel (capacity_of supply) rs t ((within room c ▸ x) ∷ []) records' pending' → outcome flow_channel (capacity_of supply) rs t (within room c) ≡ outcome_of flow_channel x records' pending'
      last (goes_run step rests) = determined flow_channel (capacity_of supply) _ _ _ _ _ step

  -- a player that ended its run
  has_ended : (p p' : Player R W) (s : State) (taken most : ℕ) (total : List ℕ) (q : Progress) → p.progress ≡ q → Ends remaining contents p p' → Goes q (view_of p.stream) (lines_of p.format s) taken most total → Stopped remaining contents p' s (suc taken) most total
  has_ended p p' s taken most total Going e ends g = ends.prints e s taken most total g
  has_ended p p' s taken most total (Waiting pause) e ends g = absurd g
  has_ended p p' s taken most total Ended e ends g = absurd g
  has_ended p p' s taken most total (Interrupted i) e ends g = rw (ends.same (ap going? e), e) g

  -- one that was stopped, since no more calls can be counted
  was_stopped : (p : Player R W) (s : State) (taken most : ℕ) (total : List ℕ) (q : Progress) → p.progress ≡ q → countless ≤ taken → Goes q (view_of p.stream) (lines_of p.format s) taken most total → Stopped remaining contents p s (suc taken) most total
  was_stopped p s taken most total Going e many g = rw e (let k = g.few in omega arith)
  was_stopped p s taken most total (Waiting pause) e many g = absurd g
  was_stopped p s taken most total Ended e many g = absurd g
  was_stopped p s taken most total (Interrupted i) e many g = rw e g

  -- and then stopped
  pub driven : (room supply : ℕ) → 64 ≤ room → (p p' : Player R W) (records records' : List Record) (pending pending' : List Character) (trace : Trace flow_channel)
      → Driven (Names remaining contents) (λ d d' e. Hears d d' e) room (Ends remaining contents) p trace p' → Run flow_channel (capacity_of supply) records pending trace records' pending'
      → (taken most : ℕ) (total : List ℕ) → p.progress ≡ Going → Prints remaining contents (view_of p.stream) (lines_of p.format (standing supply records pending)) taken most total
      → Stopped remaining contents p' (standing supply records' pending') (suc (taken + length trace)) most total
  driven room supply h p p' records records' pending pending' trace d run taken most total going prints =
      let g = printed room supply h d.drives run taken most total going prints in
      let s = standing supply records' pending' in
      elim d.ended [
        | inl e ↦ has_ended d.last p' s (taken + length trace) most total d.last.progress refl e g
        | inr e ↦ rw (← e.1) (was_stopped d.last s (taken + length trace) most total d.last.progress refl (let l = e.0 in omega arith) g)
      ]
