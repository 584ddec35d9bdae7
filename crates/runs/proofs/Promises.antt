-- Every run keeps the laws.
use Rattle.std.proofs.Common.{◌≡◌, ℕ, ◌≤◌, ◌↔◌, List, [], ◌∷◌, ◌++◌, map, length, sym, refl, ap, ◌∙◌, subst, zero-add, arith}
use Rattle.runs.specs.Devices.{Device, DeviceLaws}
use Rattle.runs.specs.Places.{At}
use Rattle.runs.specs.Shares.{share_of, total}
use Rattle.runs.specs.Traces.{Rack, Pending, Result, Trace, gap, ◌▸◌}
use Rattle.runs.specs.Steps.{Step, Run, goes}
use Rattle.runs.specs.Histories.{pending_after, granted, Standing, standings, standing_share, granted_total, answers_of, local_results_of, lone}
use Rattle.runs.specs.Laws.{Alike, calls_of, Isolated, TakenGap, ErrorAtMost, Denied, Exceeds, Promise}
use Rattle.runs.proofs.Places.{at_one}
use Rattle.runs.proofs.Sums.{sum_at, sum_map}
use Rattle.runs.proofs.Steps.{count_step}
use Rattle.runs.proofs.Runs.{Passed, run_split, run_keeps, pending_run, same_run}
use Rattle.runs.proofs.Channels.{run_moves}
use Rattle.runs.proofs.Lone.{lone_answers, lone_results}
use Rattle.runs.proofs.Shares.{total_step}
use Rattle.runs.proofs.Standings.{standing_of, standings_are, denied_exact}
use Rattle.runs.proofs.Damage.{character_keeps, damaged_keeps}

module _ (D : Device) (capacity : ℕ) (law : DeviceLaws D) where
  module _ {records : Rack D} {trace : Trace D} {records' : Rack D} {pending' : Pending D} (w : Run D capacity records [] trace records' pending') where
    tells_run : (place : ℕ) (r r' : D.Record) → At records place r → At records' place r' → (D.grant r' ≡ granted D place (D.grant r) [] trace) × (D.nameplate r' ≡ D.nameplate r)
    tells_run place r r' a a' =
        let m = run_moves D capacity law w tt a in
        let e = at_one a' m.stands in
        (ap D.grant e ∙ m.told, ap D.nameplate e ∙ m.nameplate)

    count_run : length records' ≡ length records
    count_run = run_keeps D capacity (λ (qs : Rack D) (pending : Pending D). length qs ≡ length records) (λ _ _ _ _ _ s p. count_step D capacity s ∙ p) w refl

    total_run : total D records ≤ capacity → total D records' ≤ capacity
    total_run h = run_keeps D capacity (λ (qs : Rack D) (pending : Pending D). total D qs ≤ capacity) (λ _ _ _ _ _ s p. total_step D capacity law s p) w h

    standings_run : standings D records trace ≡ map (standing_of D) records'
    standings_run = standings_are D 0 records records' trace count_run (λ j r r' a a'. rw zero-add (tells_run j r r' a a'))

    isolated_run : total D records ≤ capacity → (place : ℕ) (r : D.Record) → At records place r → (r' : D.Record) × At records' place r' × Isolated D capacity place r trace r'
    isolated_run h place r a =
        let m = run_moves D capacity law w tt a in (
          m.after,
          m.stands,
          record {
            fits = let s = sum_at (share_of D) a in omega arith;
            run = m.alone;
            unique = λ es qs pending v e. same_run D capacity v m.alone e;
            answers = lone_answers D place trace;
            local_results = lone_results D place trace;
          },
        )

  -- a run passes the state between two parts of its trace
  passed : {records : Rack D} {trace : Trace D} {records' : Rack D} {pending' : Pending D} (before after : Trace D) → Run D capacity records [] trace records' pending' → trace ≡ before ++ after
      → Passed D capacity records [] before after records' pending'
  passed {records} {records' = records'} {pending'} before after w e = run_split D capacity before after (subst (λ (v : Trace D). Run D capacity records [] v records' pending') e w)

  fits_run : {records records' : Rack D} {trace : Trace D} {pending' : Pending D} (before after : Trace D) → Run D capacity records [] trace records' pending' → total D records ≤ capacity → trace ≡ before ++ after
      → granted_total D (standings D records before) ≤ capacity
  fits_run before after w h e =
      let p = passed before after w e in
      rw (standings_run p.until, sum_map (standing_of D) (standing_share D) p.rack) (total_run p.until h)

  -- a law of each step by a taken gap, from the state that the trace before it tells
  at_gap : {records records' : Rack D} {trace : Trace D} {pending' : Pending D} {before : Trace D} {n : ℕ} {result : Result D} (P : List (Standing D) → Pending D → Type 0)
      → ((records₁ records₂ : Rack D) (pending₁ pending₂ : Pending D) → Step D capacity records₁ pending₁ (gap n ▸ result) records₂ pending₂ → P (map (standing_of D) records₁) pending₁)
      → Run D capacity records [] trace records' pending' → TakenGap D trace before n result → P (standings D records before) (pending_after D [] before)
  at_gap {records} {before = before} {n} {result} P law-of w g =
      let p = passed before ((gap n ▸ result) ∷ g.after) w g.next in
      rw (standings_run p.until, ← pending_run D capacity p.until) (first p.onward)
    where
      first : {records₁ : Rack D} {pending₁ : Pending D} {records₃ : Rack D} {pending₃ : Pending D} → Run D capacity records₁ pending₁ ((gap n ▸ result) ∷ g.after) records₃ pending₃ → P (map (standing_of D) records₁) pending₁
      first (goes s v) = law-of _ _ _ _ s

  pub promise : Promise D capacity
  promise records records' trace pending' w h = record {
    unique = λ es qs pending v e. same_run D capacity v w e;
    isolated = isolated_run w h;
    characters = λ records₁ records₂ pending₁ pending₂ c result s. character_keeps D capacity s;
    damaged_rack = λ before n result g d records₁ records₂ pending₁ pending₂ v s. (damaged_keeps D capacity law s g.room (subst D.Damaged (sym (pending_run D capacity v)) d)).0;
    damaged_result = λ before n result g d. at_gap (λ ss pending. D.Damaged pending → ErrorAtMost D result) (λ _ _ _ _ s e. (damaged_keeps D capacity law s g.room e).1) w g d;
    fits = λ before after e. fits_run before after w h e;
    exact = λ before n result place g. at_gap (λ ss pending. Denied D result place ↔ Exceeds D capacity ss pending place) (λ records₁ _ pending₁ _ s. denied_exact D capacity law records₁ pending₁ s g.room) w g;
    tells = tells_run w;
    count = count_run w;
    pending_is = pending_run D capacity w;
  }

  -- a run of a panel that holds one of the channels alone, with that channel's calls
  pub alike : (records after : Rack D) (trace : Trace D) (pending : Pending D) → Run D capacity records [] trace after pending → total D records ≤ capacity
      → (place : ℕ) (r : D.Record) → At records place r → (alone : Trace D) (alone_after : Rack D) (alone_pending : Pending D) → Run D capacity (r ∷ []) [] alone alone_after alone_pending
      → calls_of D alone ≡ calls_of D (lone D place [] trace) → Alike D place trace after alone alone_after
  alike records after trace pending w h place r a alone alone_after alone_pending v e =
      let i = isolated_run w h place r a in
      let u = i.2.unique alone alone_after alone_pending v e in
      record {
        same_trace = u.0;
        r' = i.0;
        stands = i.1;
        same_record = u.1;
        same_answers = ap (answers_of D 0) u.0 ∙ i.2.answers;
        same_local_results = ap (local_results_of D 0) u.0 ∙ i.2.local_results;
      }
