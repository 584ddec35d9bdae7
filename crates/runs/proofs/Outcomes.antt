-- From one state a call has just one outcome.
use Rattle.std.proofs.Common.{◌≡◌, ℕ, ◌≤◌, Bool, true, false, ltb, Some, None, Option, sym, refl, ap, ◌∙◌, subst, inl, inr, slice_get}
use Rattle.std.proofs.lemmas.Bool.{cond_both, cond-true, cond-false, ltb-true, ltb-false, lt-ltb, le-ltb, and_parts, and_cases, and_from, and_left, and_right, both_ways}
use Rattle.runs.specs.Devices.{Device}
use Rattle.runs.specs.Places.{At}
use Rattle.runs.specs.Traces.{Rack, Pending, Interaction, character, gap, local}
use Rattle.runs.specs.Steps.{Only, Step, takes, refuses, short, nobody, serves, denies, operates, misses}
use Rattle.runs.specs.Outcomes.{Outcome, outcome_of, sole, exceeds?, answered_by, ended, operated_at, outcome, Leads, Follows, Determined}
use Rattle.runs.proofs.Places.{none_some, not_some, get_at, at_get, only_place_lem, place_only}

module _ (D : Device) (capacity : ℕ) where
  module _ (records : Rack D) (pending : Pending D) where
    -- the transmission means just the channel at this place
    answered_leads : {n place : ℕ} {r : D.Record} → 64 ≤ n → At records place r → Only D records pending place → Leads D capacity records pending (gap n) (answered_by D capacity records pending place (Some r))
    answered_leads {n} {place} {r} room a only =
        cond_both (exceeds? D capacity records pending place r) _ _ (Leads D capacity records pending (gap n))
        (λ e. let p = and_parts (D.asks? r pending) _ e in denies room a only p.0 (ltb-true _ _ p.1))
        (λ e. serves room a only (λ asks. elim (and_cases (D.asks? r pending) _ e) [
          | inl no-ask ↦ absurd (both_ways _ no-ask asks)
          | inr within ↦ ltb-false _ _ within
        ]))

    ended_leads : {n : ℕ} (o : Option ℕ) → sole D records pending ≡ o → 64 ≤ n → Leads D capacity records pending (gap n) (ended D capacity records pending o)
    ended_leads {n} (Some place) e room =
        let f = place_only (λ r. D.meant? r pending) records place e in
        subst (λ (o : Option D.Record). Leads D capacity records pending (gap n) (answered_by D capacity records pending place o)) (sym (get_at f.1)) (answered_leads room f.1 f.2)
    ended_leads None e room = nobody room (λ place r a only. none_some e (only_place_lem (λ q. D.meant? q pending) a only))

    operated_leads : (place : ℕ) (operation : D.Operation) (o : Option D.Record) → slice_get records place ≡ o → Leads D capacity records pending (local place operation) (operated_at D records pending place operation o)
    operated_leads place operation (Some r) e = operates (at_get records place e)
    operated_leads place operation None e = misses (λ r a. none_some e (get_at a))

  pub follows : Follows D capacity
  follows records pending (character c) = cond_both (D.acceptable? c) _ _ (Leads D capacity records pending (character c)) takes refuses
  follows records pending (gap n) =
      cond_both (ltb n 64) _ _ (Leads D capacity records pending (gap n)) (λ e. short (ltb-true n 64 e)) (λ e. ended_leads records pending (sole D records pending) refl (ltb-false n 64 e))
  follows records pending (local place operation) = operated_leads records pending place operation (slice_get records place) refl

  -- a taken gap has the outcome of its ended transmission
  gap_ended : (records : Rack D) (pending : Pending D) (n : ℕ) (o : Outcome D) → 64 ≤ n → ended D capacity records pending (sole D records pending) ≡ o → outcome D capacity records pending (gap n) ≡ o
  gap_ended records pending n o room e = cond-false (ltb n 64) _ _ (le-ltb n 64 room) ∙ e

  gap_answered : {records : Rack D} {pending : Pending D} {place : ℕ} {r : D.Record} (n : ℕ) (o : Outcome D) → 64 ≤ n → At records place r → Only D records pending place
      → answered_by D capacity records pending place (Some r) ≡ o → outcome D capacity records pending (gap n) ≡ o
  gap_answered {records} {pending} {place} n o room a only e =
      gap_ended records pending n o room
      (ap (ended D capacity records pending) (only_place_lem (λ r. D.meant? r pending) a only) ∙ ap (answered_by D capacity records pending place) (get_at a) ∙ e)

  pub step_outcome : {records : Rack D} {pending : Pending D} {e : Interaction D} {records' : Rack D} {pending' : Pending D} → Step D capacity records pending e records' pending' → outcome D capacity records pending e.call ≡ outcome_of D e.result records' pending'
  step_outcome (takes e) = cond-true _ _ _ e
  step_outcome (refuses e) = cond-false _ _ _ e
  step_outcome (short {n = n} e) = cond-true (ltb n 64) _ _ (lt-ltb n 64 e)
  step_outcome {records} {pending = pending} (nobody {n = n} room none) =
      gap_ended records pending n _ room (ap (ended D capacity records pending) (not_some (sole D records pending) (λ place e. let f = place_only (λ r. D.meant? r pending) records place e in none place f.0 f.1 f.2)))
  step_outcome {records} {pending = pending} (serves {n = n} {place = place} {r = r} room a only within) =
      gap_answered n _ room a only (cond-false (exceeds? D capacity records pending place r) _ _ (not_exceeding (D.asks? r pending) refl))
    where
      not_exceeding : (b : Bool) → D.asks? r pending ≡ b → exceeds? D capacity records pending place r ≡ false
      not_exceeding true e = and_right _ _ (le-ltb _ _ (within e))
      not_exceeding false e = and_left _ _ e
  step_outcome {records} {pending = pending} (denies {n = n} {place = place} {r = r} room a only asks above) =
      gap_answered n _ room a only (cond-true (exceeds? D capacity records pending place r) _ _ (and_from _ _ asks (lt-ltb _ _ above)))
  step_outcome {records} {pending = pending} (operates {place = place} {operation = operation} a) = ap (operated_at D records pending place operation) (get_at a)
  step_outcome {records} {pending = pending} (misses {place = place} {operation = operation} none) = ap (operated_at D records pending place operation) (not_some (slice_get records place) (λ r e. none r (at_get records place e)))

  pub determined : Determined D capacity
  determined records records' pending pending' e s = step_outcome s
