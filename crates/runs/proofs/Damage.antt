-- Characters change no record, and neither do damaged transmissions.
use Rattle.std.proofs.Common.{◌≡◌, ℕ, ◌≤◌, set, refl, ap, ◌∙◌, inl, inr, arith}
use Rattle.std.proofs.lemmas.Bool.{both_ways}
use Rattle.runs.specs.Devices.{Device, DeviceLaws}
use Rattle.runs.specs.Traces.{Rack, Pending, Result, character, gap, ◌▸◌}
use Rattle.runs.specs.Steps.{Step, takes, refuses, short, nobody, serves, denies}
use Rattle.runs.specs.Laws.{ErrorAtMost}
use Rattle.runs.proofs.Places.{set_same}

module _ (D : Device) (capacity : ℕ) where
  pub character_keeps : {records : Rack D} {pending : Pending D} {c : D.Character} {result : Result D} {records' : Rack D} {pending' : Pending D} → Step D capacity records pending (character c ▸ result) records' pending' → records' ≡ records
  character_keeps (takes e) = refl
  character_keeps (refuses e) = refl

  pub damaged_keeps : {records : Rack D} {pending : Pending D} {n : ℕ} {result : Result D} {records' : Rack D} {pending' : Pending D} → DeviceLaws D → Step D capacity records pending (gap n ▸ result) records' pending' → 64 ≤ n → D.Damaged pending
      → (records' ≡ records) × ErrorAtMost D result
  damaged_keeps law (short e) long d = absurd (omega arith)
  damaged_keeps law (nobody room none) long d = (refl, inl refl)
  damaged_keeps {records} {pending} law (serves {place = place} {r = r} room a only within) long d =
      (ap (set records place) (law.damaged_served r pending d) ∙ set_same a, inr (place, D.reply r pending, refl, law.damaged_reply r pending d (only.holds r a)))
  damaged_keeps {pending = pending} law (denies {r = r} room a only asks above) long d = absurd (both_ways (D.asks? r pending) (law.damaged_asks r pending d) asks)
