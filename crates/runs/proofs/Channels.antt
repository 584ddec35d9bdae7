-- One channel through a step and through a run: its record, what is known of it, and its lone panel.
use Rattle.std.proofs.Common.{◌≡◌, ℕ, ◌+◌, ◌≤◌, Bool, true, false, cond, eqb, [], ◌∷◌, ◌++◌, set, Some, None, Option, sym, refl, ap, ◌∙◌, subst, append_assoc, append-nil, arith}
use Rattle.std.proofs.lemmas.Bool.{eqb-true, ne_eqb, cond_both}
use Rattle.runs.specs.Devices.{Device, DeviceLaws}
use Rattle.runs.specs.Places.{At, here}
use Rattle.runs.specs.Shares.{others}
use Rattle.runs.specs.Traces.{Rack, Pending, Interaction, Trace, gap, local, answered, ◌▸◌, local_result}
use Rattle.runs.specs.Steps.{Only, Step, takes, refuses, short, nobody, serves, denies, operates, misses, Run, rests, goes}
use Rattle.runs.specs.Histories.{pending_next, refusal_of, grant_after, granted, taken_characters, lone_at, lone}
use Rattle.runs.proofs.Places.{at_one, at_sole, at_changed, at_same}
use Rattle.runs.proofs.Steps.{Acceptable, acceptable_step, pending_step}
use Rattle.runs.proofs.Runs.{run_append}

module _ (D : Device) (capacity : ℕ) where
  -- the characters of a transmission, taken one after another
  taken_run : (q : D.Record) (s pending : Pending D) → Acceptable D pending → Run D capacity (q ∷ []) s (taken_characters D pending) (q ∷ []) (s ++ pending)
  taken_run q s [] f = subst (λ (v : Pending D). Run D capacity (q ∷ []) s [] (q ∷ []) v) (sym (append-nil s)) rests
  taken_run q s (c ∷ pending) f =
      goes (takes f.0) (subst (λ (v : Pending D). Run D capacity (q ∷ []) (s ++ (c ∷ [])) (taken_characters D pending) (q ∷ []) v) (append_assoc s (c ∷ []) pending) (taken_run q (s ++ (c ∷ [])) pending f.1))

  only_lone : {records : Rack D} {pending : Pending D} {place : ℕ} {r : D.Record} → At records place r → Only D records pending place → Only D (r ∷ []) pending 0
  only_lone {pending = pending} {r = r} a o = record {
    holds = λ s b. subst (λ (x : D.Record). D.meant? x pending ≡ true) (at_one here b) (o.holds r a);
    alone = λ j s b m. at_sole b;
  }

  lone_answer : {records : Rack D} {pending : Pending D} {place : ℕ} {r : D.Record} → At records place r → Only D records pending place → (D.asks? r pending ≡ true → others D records place + D.asked (D.nameplate r) pending ≤ capacity) → Acceptable D pending
      → Run D capacity (r ∷ []) [] (taken_characters D pending ++ ((gap 64 ▸ answered 0 (D.reply r pending)) ∷ [])) (D.served r pending ∷ []) []
  lone_answer {records} {pending} {place} {r} a only within f =
      run_append D capacity (taken_run r [] pending f) (goes (serves (omega arith) here (only_lone a only) (λ asks. omega (arith, within asks))) rests)

  -- Channel k had record r; now its record is in rs with what is known of it, g, and the nameplate it had; its lone panel has gone
  -- through the trace l.
  pub record Moved (place : ℕ) (r : D.Record) (grant : D.Grant) (l : Trace D) (records : Rack D) : Type 0 where
    pub after : D.Record
    pub stands : At records place after
    pub told : D.grant after ≡ grant
    pub nameplate : D.nameplate after ≡ D.nameplate r
    pub alone : Run D capacity (r ∷ []) [] l (after ∷ []) []

  stays : {records : Rack D} {place : ℕ} {r : D.Record} → At records place r → Moved place r (D.grant r) [] records
  stays {r = r} a = record { after = r; stands = a; told = refl; nameplate = refl; alone = rests }

  -- channel j's record q becomes s, and h of what was known of it is known then
  changes : {records : Rack D} {j place : ℕ} {q r : D.Record} (s : D.Record) (h : D.Grant → D.Grant) (l : Trace D) (b : Bool) → eqb j place ≡ b → At records j q → At records place r
      → D.grant s ≡ h (D.grant q) → D.nameplate s ≡ D.nameplate q → Run D capacity (q ∷ []) [] l (s ∷ []) []
      → Moved place r (cond b (h (D.grant r)) (D.grant r)) (cond b l []) (set records j s)
  changes {records} {j} {place} {q} {r} s h l true e aq a grant p w =
      subst (λ (v : D.Record). Moved place v (h (D.grant v)) l (set records j s)) (at_same (eqb-true j place e) aq a)
      (record { after = s; stands = at_changed s true e aq a; told = grant; nameplate = p; alone = w })
  changes {records} {j} {place} {q} {r} s h l false e aq a grant p w = stays (at_changed s false e aq a)

  refusal_told : (o : Option ℕ) → refusal_of D (local_result o) ≡ o
  refusal_told (Some n) = refl
  refusal_told None = refl

  module _ (law : DeviceLaws D) where
    step_moves : {records : Rack D} {pending : Pending D} {e : Interaction D} {records' : Rack D} {pending' : Pending D} {place : ℕ} {r : D.Record} → Step D capacity records pending e records' pending' → Acceptable D pending → At records place r
        → Moved place r (grant_after D place (D.grant r) pending e.call e.result) (lone_at D place pending e.call e.result) records'
    step_moves (takes e) f a = stays a
    step_moves (refuses e) f a = stays a
    step_moves (short e) f a = stays a
    step_moves (nobody room none) f a = stays a
    step_moves {pending = pending} {place = place} (serves {place = j} {r = q} room aq only within) f a =
        rw (law.reply_differs q pending (only.holds q aq))
        (changes (D.served q pending) (λ grant. D.after_answer grant pending (D.reply q pending)) (taken_characters D pending ++ ((gap 64 ▸ answered 0 (D.reply q pending)) ∷ [])) (eqb j place) refl aq a
        (law.served_grant q pending) (law.served_nameplate q pending) (lone_answer aq only within f))
    step_moves {pending = pending} {place = place} {r = r} (denies {place = j} {r = q} room aq only asks above) f a =
        rw (law.denial_is q pending (only.holds q aq) asks) (record { after = r; stands = a; told = same; nameplate = refl; alone = rests })
      where
        same : D.grant r ≡ cond (eqb j place) (D.after_answer (D.grant r) pending (D.denial q pending)) (D.grant r)
        same = cond_both (eqb j place) _ _ (λ (grant : D.Grant). D.grant r ≡ grant)
            (λ e. subst (λ (v : D.Record). D.grant v ≡ D.after_answer (D.grant v) pending (D.denial q pending)) (at_same (eqb-true j place e) aq a) (sym (law.denied_grant q pending asks)))
            (λ e. refl)
    step_moves {place = place} (operates {place = j} {operation = operation} {r = q} aq) f a =
        rw (refusal_told (D.refusal q operation))
        (changes (D.operated q operation) (λ grant. D.after_operation grant operation (D.refusal q operation)) ((local 0 operation ▸ local_result (D.refusal q operation)) ∷ []) (eqb j place) refl aq a
        (law.operated_grant q operation) (law.operated_nameplate q operation) (goes (operates here) rests))
    step_moves {records} {place = place} {r = r} (misses {place = j} none) f a = rw (ne_eqb j place (λ e. none r (subst (λ (i : ℕ). At records i r) (sym e) a))) (stays a)

    pub run_moves : {records : Rack D} {pending : Pending D} {es : Trace D} {records' : Rack D} {pending' : Pending D} {place : ℕ} {r : D.Record} → Run D capacity records pending es records' pending' → Acceptable D pending → At records place r
        → Moved place r (granted D place (D.grant r) pending es) (lone D place pending es) records'
    run_moves rests f a = stays a
    run_moves {pending = pending} {place = place} {r = r} (goes {e = e} {es = es} {records'' = records''} s w) f a =
        let m = step_moves s f a in
        let n = subst (λ (v : Pending D). Moved place m.after (granted D place (D.grant m.after) v es) (lone D place v es) records'') (pending_step D capacity s) (run_moves w (acceptable_step D capacity s f) m.stands) in
        record {
          after = n.after;
          stands = n.stands;
          told = n.told ∙ ap (λ (grant : D.Grant). granted D place grant (pending_next D pending e.call e.result) es) m.told;
          nameplate = n.nameplate ∙ m.nameplate;
          alone = run_append D capacity m.alone n.alone;
        }
