-- What one step does to the line and to the number of channels.
use Rattle.std.proofs.Common.{◌≡◌, ℕ, true, [], ◌∷◌, ◌++◌, length, refl, length-set}
use Rattle.runs.specs.Devices.{Device}
use Rattle.runs.specs.Traces.{Rack, Pending, Interaction}
use Rattle.runs.specs.Steps.{Step, takes, refuses, short, nobody, serves, denies, operates, misses}
use Rattle.runs.specs.Histories.{pending_next}

module _ (D : Device) where
  -- all characters of a transmission may be taken
  abbrev pub Acceptable : Pending D → Type 0
  Acceptable [] = Unit {0}
  Acceptable (c ∷ pending) = (D.acceptable? c ≡ true) × Acceptable pending

  acceptable_more : (pending : Pending D) (c : D.Character) → Acceptable pending → D.acceptable? c ≡ true → Acceptable (pending ++ (c ∷ []))
  acceptable_more [] c f e = (e, tt)
  acceptable_more (d ∷ pending) c f e = (f.0, acceptable_more pending c f.1 e)

module _ (D : Device) (capacity : ℕ) where
  pub acceptable_step : {records : Rack D} {pending : Pending D} {e : Interaction D} {records' : Rack D} {pending' : Pending D} → Step D capacity records pending e records' pending' → Acceptable D pending → Acceptable D pending'
  acceptable_step {pending = pending} (takes {c = c} e) f = acceptable_more D pending c f e
  acceptable_step (refuses e) f = f
  acceptable_step (short e) f = f
  acceptable_step (nobody room none) f = tt
  acceptable_step (serves room a only within) f = tt
  acceptable_step (denies room a only asks above) f = tt
  acceptable_step (operates a) f = f
  acceptable_step (misses none) f = f

  pub pending_step : {records : Rack D} {pending : Pending D} {e : Interaction D} {records' : Rack D} {pending' : Pending D} → Step D capacity records pending e records' pending' → pending' ≡ pending_next D pending e.call e.result
  pending_step (takes e) = refl
  pending_step (refuses e) = refl
  pending_step (short e) = refl
  pending_step (nobody room none) = refl
  pending_step (serves room a only within) = refl
  pending_step (denies room a only asks above) = refl
  pending_step (operates a) = refl
  pending_step (misses none) = refl

  pub count_step : {records : Rack D} {pending : Pending D} {e : Interaction D} {records' : Rack D} {pending' : Pending D} → Step D capacity records pending e records' pending' → length records' ≡ length records
  count_step (takes e) = refl
  count_step (refuses e) = refl
  count_step (short e) = refl
  count_step (nobody room none) = refl
  count_step {records} {pending} (serves {place = place} {r = r} room a only within) = length-set records place (D.served r pending)
  count_step (denies room a only asks above) = refl
  count_step {records} (operates {place = place} {operation = operation} {r = r} a) = length-set records place (D.operated r operation)
  count_step (misses none) = refl
