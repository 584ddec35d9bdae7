-- The shares fit the capacity at every step.
use Rattle.std.proofs.Common.{◌≡◌, ℕ, ◌+◌, ◌≤◌, Bool, true, false, set, refl, ap, arith}
use Rattle.runs.specs.Devices.{Device, DeviceLaws}
use Rattle.runs.specs.Places.{At}
use Rattle.runs.specs.Shares.{share_of, total, others}
use Rattle.runs.specs.Traces.{Rack, Pending, Interaction}
use Rattle.runs.specs.Steps.{Step, takes, refuses, short, nobody, serves, denies, operates, misses}
use Rattle.runs.proofs.Sums.{sum_at, sum_set}

module _ (D : Device) (capacity : ℕ) where
  -- a record with another share in its place
  replaced : {records : Rack D} {place : ℕ} {r : D.Record} (s : D.Record) → At records place r → D.nameplate s ≡ D.nameplate r → others D records place + D.share (D.nameplate r) (D.grant s) ≤ capacity
      → total D (set records place s) ≤ capacity
  replaced s a p h =
      let e = ap (λ (v : D.Nameplate). D.share v (D.grant s)) p in
      let q = sum_set (share_of D) s a in
      omega arith

  -- a record with the same share in its place
  unmoved : {records : Rack D} {place : ℕ} {r : D.Record} (s : D.Record) → At records place r → D.nameplate s ≡ D.nameplate r → D.share (D.nameplate r) (D.grant s) ≡ share_of D r → total D records ≤ capacity
      → total D (set records place s) ≤ capacity
  unmoved s a p e h = let q = sum_at (share_of D) a in replaced s a p (omega arith)

  pub total_step : (law : DeviceLaws D) {records : Rack D} {pending : Pending D} {e : Interaction D} {records' : Rack D} {pending' : Pending D} → Step D capacity records pending e records' pending' → total D records ≤ capacity → total D records' ≤ capacity
  total_step law (takes e) h = h
  total_step law (refuses e) h = h
  total_step law (short e) h = h
  total_step law (nobody room none) h = h
  total_step law {records} {pending} (serves {place = place} {r = r} room a only within) h = served (D.asks? r pending) refl
    where
      served : (b : Bool) → D.asks? r pending ≡ b → total D (set records place (D.served r pending)) ≤ capacity
      served true e = let s = law.asked_share r pending e in let w = within e in replaced (D.served r pending) a (law.served_nameplate r pending) (omega arith)
      served false e = unmoved (D.served r pending) a (law.served_nameplate r pending) (law.served_share r pending e) h
  total_step law (denies room a only asks above) h = h
  total_step law (operates {operation = operation} {r = r} a) h = unmoved (D.operated r operation) a (law.operated_nameplate r operation) (law.operated_share r operation) h
  total_step law (misses none) h = h
