-- A run, one call after another.
use Rattle.std.proofs.Common.{◌≡◌, ℕ, ◌≤◌, List, [], ◌∷◌, ◌++◌, length, Some, Ok, Err, MatchResult, IsOkAnd, drop, append_assoc, refl, sym, ap, ◌∙◌, subst, arith}
use Rattle.std.proofs.lemmas.List.{length-append, length-drop, drop-append-le}
use Rattle.calls.specs.Views as calls
use Rattle.calls.specs.declared.Call.{Call}
use Rattle.calls.specs.declared.Response.{Response}
use Rattle.calls.specs.declared.Response.TheVariants.{Taken}
use Rattle.refusals.specs.declared.Refusal.{Refusal}
use Rattle.std.specs.declared.result.Result as results
use Rattle.header.specs.Shares.{capacity_of}
use Rattle.record.specs.declared.Record.{Record}
use Rattle.runs.specs.Channel.{flow_channel}
use Rattle.runs.specs.SetUps.{SetUp}
use Rattle.runs.specs.Steps.{Run, rests, goes}
use Rattle.runs.specs.Traces as traces
use Rattle.runs.specs.Traces.{Interaction, Trace, ◌▸◌}
use Rattle.runs.proofs.Runs.{run_append, pending_run}
use Rattle.runs.proofs.SetUps.{promised}
use Rattle.runs.specs.Histories.{pending_after}
use Rattle.line.specs.Characters.{Character}
use Rattle.rack.specs.declared.racks.Rack.{Ghosts}
use Rattle.receiver.specs.Holding.{Holds}
use Rattle.panel.specs.declared.driver.Driver as drivers
use Rattle.panel.specs.declared.state.Panel.{Panel}
use Rattle.panel.specs.Panels.{records_in, outcome_in, result_of, buffer_of, Does, Through}
use Rattle.panel.specs.Working.{Performed, Underway, GoesOn, buffer_after}

-- a call that is taken or refused, and of which the driver is told just that
taken_as : (r : results.Result (Unit {0}) Refusal) (o : results.Result Response Refusal) → MatchResult r (λ u. IsOkAnd o (λ v. v ≡ Taken)) (λ e. o ≡ Err e) → calls.result_of o ≡ result_of r
taken_as (Ok u) (Ok v) h = ap (λ (v : Response). calls.result_of (Ok v)) h
taken_as (Ok u) (Err e) h = absurd h
taken_as (Err e) o h = ap calls.result_of h

-- and by which nothing is written
untouched : (r : results.Result (Unit {0}) Refusal) (o : results.Result Response Refusal) {buffer : List ℕ} → MatchResult r (λ u. IsOkAnd o (λ v. v ≡ Taken)) (λ e. o ≡ Err e) → buffer ≡ buffer_of (calls.result_of o) buffer
untouched (Ok u) (Ok v) {buffer} h = ap (λ (v : Response). buffer_of (calls.result_of (Ok v)) buffer) (sym h)
untouched (Ok u) (Err e) h = absurd h
untouched (Err e) o {buffer} h = ap (λ (o : results.Result Response Refusal). buffer_of (calls.result_of o) buffer) (sym h)

-- a buffer of which a front part was lent
pub extended : (result : traces.Result flow_channel) (front front' back : List ℕ) → front' ≡ buffer_of result front → length front' ≡ length front → front' ++ back ≡ buffer_of result (front ++ back)
extended traces.taken front front' back e h = ap (λ l. l ++ back) e
extended (traces.refused n) front front' back e h = ap (λ l. l ++ back) e
extended traces.silent front front' back e h = ap (λ l. l ++ back) e
extended (traces.answered k bytes) front front' back e h =
    let n = length bytes in
    let l : n ≤ length front = omega (arith, h, ap length e, length-append bytes (drop n front), length-drop n front) in
    rw (e, drop-append-le n front back l) (append_assoc bytes (drop n front) back)

-- one call more
pub buffer_more : (trace : Trace flow_channel) (e : Interaction flow_channel) (buffer : List ℕ) → buffer_after (trace ++ (e ∷ [])) buffer ≡ buffer_of e.result (buffer_after trace buffer)
buffer_more [] e buffer = refl
buffer_more (f ∷ trace) e buffer = buffer_more trace e (buffer_of f.result buffer)

module _ {X : Type 0} {G : Ghosts X} {Dr : Type 0} {D : drivers.Ghosts Dr} (p p' : Panel X G) (d d' : Dr) (buffer : List ℕ) (call : Call) (r : results.Result (Unit {0}) Refusal) (o : results.Result Response Refusal) where
  pub performed : (called : Call) (k : traces.Call flow_channel) → called ≡ call → calls.call_of call ≡ k → MatchResult r (λ u. IsOkAnd o (λ v. v ≡ Taken)) (λ e. o ≡ Err e)
      → D.hears d d' (calls.interaction_of called o) → Does p p' (calls.call_of call) (result_of r) → Through p p' (calls.call_of call) (result_of r) → Performed D p p' d d' buffer buffer k
  performed called k e named cases heard does through = record {
    result = calls.result_of o;
    does = rw (taken_as r o cases, ← named) does;
    through = rw (taken_as r o cases, ← named) through;
    heard = rw (← named, ← e) heard;
    left = untouched r o cases;
  }

module _ {X : Type 0} {G : Ghosts X} where
  -- nothing has happened yet
  pub begins : (p p' : Panel X G) (supply : ℕ) → records_in p' ≡ records_in p → p'.supply ≡ Some supply → Holds p'.receiver [] → SetUp supply (records_in p) → Underway supply (records_in p) [] p'
  begins p p' supply kept supplied new s =
      let ran : Run flow_channel (capacity_of supply) (records_in p) [] [] (records_in p') [] = subst (λ (rs : List Record). Run flow_channel (capacity_of supply) (records_in p) [] [] rs []) (sym kept) rests in
      record { set_up = s; supply_is = supplied; ran = ran; promised = promised supply (records_in p) (records_in p') [] [] s ran; holds = new }

  -- one more call
  pub goes_on : {p p' : Panel X G} {call : traces.Call flow_channel} {result : traces.Result flow_channel} → Does p p' call result → GoesOn p p' call result
  goes_on {p} {p'} {call} {result} does supply before trace u =
      let after = trace ++ ((call ▸ result) ∷ []) in
      let pending = (outcome_in p (pending_after flow_channel [] trace) call).pending in
      let ran : Run flow_channel (capacity_of supply) before [] after (records_in p') pending = run_append flow_channel (capacity_of supply) u.ran (goes (does.steps supply u.supply_is (pending_after flow_channel [] trace) u.holds) rests) in
      let e : pending ≡ pending_after flow_channel [] after = pending_run flow_channel (capacity_of supply) ran in
      let ran' : Run flow_channel (capacity_of supply) before [] after (records_in p') (pending_after flow_channel [] after) = subst (λ (t : List Character). Run flow_channel (capacity_of supply) before [] after (records_in p') t) e ran in
      record {
        set_up = u.set_up;
        supply_is = does.keeps ∙ u.supply_is;
        ran = ran';
        promised = promised supply before (records_in p') after (pending_after flow_channel [] after) u.set_up ran';
        holds = subst (λ (t : List Character). Holds p'.receiver t) e (does.holds (pending_after flow_channel [] trace) u.holds);
      }
