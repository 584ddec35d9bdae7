-- The standings are those of the records; the header refuses exactly what exceeds the capacity.
use Rattle.std.proofs.Common.{◌≡◌, ℕ, suc, ◌+◌, ◌<◌, ◌≤◌, true, ◌↔◌, [], ◌∷◌, map, length, sym, refl, ap, ◌∙◌, subst, add-zero, add-suc, suc-add, arith}
use Rattle.std.proofs.lemmas.Bool.{both_ways}
use Rattle.runs.specs.Devices.{Device, DeviceLaws}
use Rattle.runs.specs.Places.{At, here, there, OnlyAt}
use Rattle.runs.specs.Shares.{others}
use Rattle.runs.specs.Traces.{Rack, Pending, Result, Trace, gap, ◌▸◌}
use Rattle.runs.specs.Steps.{Only, Step, short, nobody, serves, denies}
use Rattle.runs.specs.Histories.{granted, Standing, standings_from, standing_share}
use Rattle.runs.specs.Outcomes.{Outcome}
use Rattle.runs.specs.Laws.{Denied, Exceeds}
use Rattle.runs.proofs.Places.{at_map, map_at, only_map}
use Rattle.runs.proofs.Sums.{but_map}
use Rattle.runs.proofs.Runs.{same_outcome}

module _ (D : Device) where
  -- a record's nameplate and what is known of its channel
  abbrev pub standing_of : D.Record → Standing D
  standing_of r = record { nameplate = D.nameplate r; grant = D.grant r }

  pub standings_are : (place : ℕ) (records records' : Rack D) (es : Trace D) → length records' ≡ length records
      → ((j : ℕ) (r r' : D.Record) → At records j r → At records' j r' → (D.grant r' ≡ granted D (place + j) (D.grant r) [] es) × (D.nameplate r' ≡ D.nameplate r))
      → standings_from D place records es ≡ map standing_of records'
  standings_are place [] [] es n h = refl
  standings_are place [] (r' ∷ records') es n h = absurd (omega arith)
  standings_are place (r ∷ records) [] es n h = absurd (omega arith)
  standings_are place (r ∷ records) (r' ∷ records') es n h =
      let first = h 0 r r' here here in
      let grant : D.grant r' ≡ granted D place (D.grant r) [] es = rw add-zero at first.0 in
      let rest = standings_are (suc place) records records' es (omega arith) (λ j q q' a a'. rw (suc-add, ← add-suc) (h (suc j) q q' (there a) (there a'))) in
      λ i. record { nameplate = sym first.1 i; grant = sym grant i } ∷ rest i

module _ (D : Device) (capacity : ℕ) (law : DeviceLaws D) (records : Rack D) (pending : Pending D) where
  -- a setpoint command means the same places among records and among standings
  meant_same : D.setpoint? pending ≡ true → {place : ℕ} → Only D records pending place ↔ OnlyAt (λ s. D.meant_by? s.nameplate s.grant pending) (map (standing_of D) records) place
  meant_same s = only_map (standing_of D) (λ r. D.meant? r pending) (λ s. D.meant_by? s.nameplate s.grant pending) (λ r. law.meant_by r pending s)

  -- a record that is asked for too much, by its standing
  exceeds : {place : ℕ} {r : D.Record} → At records place r → Only D records pending place → D.asks? r pending ≡ true → capacity < others D records place + D.asked (D.nameplate r) pending → Exceeds D capacity (map (standing_of D) records) pending place
  exceeds {place} {r} a only asks above =
      let s = law.asks_setpoint r pending asks in
      record {
        standing = standing_of D r;
        stands = at_map (standing_of D) a;
        command = s;
        asks = sym (law.asks_by r pending) ∙ asks;
        meant = (meant_same s).0 only;
        above = let e = but_map (standing_of D) (standing_share D) records place in omega arith;
      }

  -- the header refuses a record that is asked for too much
  exceeding_denied : {n place : ℕ} {result : Result D} {records' : Rack D} {pending' : Pending D} (r : D.Record) → Step D capacity records pending (gap n ▸ result) records' pending' → 64 ≤ n
      → At records place r → Only D records pending place → D.asks? r pending ≡ true → capacity < others D records place + D.asked (D.nameplate r) pending → Denied D result place
  exceeding_denied {n} r s room a only asks above =
      let o = same_outcome D capacity s (denies {n = n} room a only asks above) refl in
      (D.denial r pending, ap (λ (v : Outcome D). v.result) o, law.denial_is r pending (only.holds r a) asks)

  denied_exceeding : {n place : ℕ} {result : Result D} {records' : Rack D} {pending' : Pending D} → Step D capacity records pending (gap n ▸ result) records' pending' → Denied D result place → Exceeds D capacity (map (standing_of D) records) pending place
  denied_exceeding (short e) d = let z : ◌≡◌ {A = ℕ} 0 1 = cc d.1 in absurd (omega arith)
  denied_exceeding (nobody room none) d = let z : ◌≡◌ {A = ℕ} 0 1 = cc d.1 in absurd (omega arith)
  denied_exceeding (serves {r = r} room a only within) d =
      let e : D.reply r pending ≡ d.0 = cc d.1 in
      absurd (both_ways (D.denial? (D.reply r pending)) (law.reply_differs r pending (only.holds r a)) (ap D.denial? e ∙ d.2))
  denied_exceeding {place = place} (denies {place = j} room a only asks above) d =
      let e : j ≡ place = cc d.1 in
      subst (Exceeds D capacity (map (standing_of D) records) pending) e (exceeds a only asks above)

  pub denied_exact : {n place : ℕ} {result : Result D} {records' : Rack D} {pending' : Pending D} → Step D capacity records pending (gap n ▸ result) records' pending' → 64 ≤ n → Denied D result place ↔ Exceeds D capacity (map (standing_of D) records) pending place
  denied_exact {place = place} s room = (
    denied_exceeding s,
    λ e.
        let m = map_at (standing_of D) records e.stands in
        let b = but_map (standing_of D) (standing_share D) records place in
        let p = ap (λ (v : Standing D). D.asked v.nameplate pending) m.2 in
        exceeding_denied m.0 s room m.1 ((meant_same e.command).1 e.meant)
        (law.asks_by m.0 pending ∙ ap (λ (v : Standing D). D.asks_by? v.nameplate v.grant pending) m.2 ∙ e.asks) (omega (arith, e.above)),
  )
