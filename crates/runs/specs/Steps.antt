-- What one call does to a panel, and what a run is.
use Rattle.std.specs.Prelude.{◌≡◌, ℕ, ◌+◌, ◌<◌, ◌≤◌, true, false, [], ◌∷◌, ◌++◌, slice_set}
use Rattle.refusals.specs.Refusals.{number_of}
use Rattle.refusals.specs.declared.Refusal.TheVariants.{NoChannel, ShortBuffer, Marks}
use Rattle.line.specs.Answers.{answer_room}
use Rattle.runs.specs.Devices.{Device}
use Rattle.runs.specs.Places.{At, OnlyAt}
use Rattle.runs.specs.Shares.{others}
use Rattle.runs.specs.Traces.{Rack, Pending, Interaction, Trace, character, gap, local, taken, refused, silent, answered, ◌▸◌, local_result}

module _ (D : Device) where
  -- the transmission means the channel at this place, and no other
  abbrev pub Only : Rack D → Pending D → ℕ → Type 0
  Only records pending place = OnlyAt (λ r. D.meant? r pending) records place

  -- One call, where shares may sum up to a capacity: records and pending characters before it, the call with its
  -- result, and both after it.
  pub data Step (capacity : ℕ) : Rack D → Pending D → Interaction D → Rack D → Pending D → Type 0 where
    takes : {records : Rack D} {pending : Pending D} {c : D.Character} → D.acceptable? c ≡ true
        → Step capacity records pending (character c ▸ taken) records (pending ++ (c ∷ []))
    refuses : {records : Rack D} {pending : Pending D} {c : D.Character} → D.acceptable? c ≡ false
        → Step capacity records pending (character c ▸ refused (number_of Marks)) records pending
    -- too little room for an answer: the transmission goes on
    short : {records : Rack D} {pending : Pending D} {n : ℕ} → n < answer_room
        → Step capacity records pending (gap n ▸ refused (number_of ShortBuffer)) records pending
    nobody : {records : Rack D} {pending : Pending D} {n : ℕ} → answer_room ≤ n
        → ((place : ℕ) (r : D.Record) → At records place r → Only records pending place → ⊥)
        → Step capacity records pending (gap n ▸ silent) records []
    serves : {records : Rack D} {pending : Pending D} {n place : ℕ} {r : D.Record}
        → answer_room ≤ n → At records place r → Only records pending place
        → (D.asks? r pending ≡ true → others D records place + D.asked (D.nameplate r) pending ≤ capacity)
        → Step capacity records pending (gap n ▸ answered place (D.reply r pending))
        (slice_set records place (D.served r pending)) []
    denies : {records : Rack D} {pending : Pending D} {n place : ℕ} {r : D.Record}
        → answer_room ≤ n → At records place r → Only records pending place
        → D.asks? r pending ≡ true → capacity < others D records place + D.asked (D.nameplate r) pending
        → Step capacity records pending (gap n ▸ answered place (D.denial r pending)) records []
    operates : {records : Rack D} {pending : Pending D} {place : ℕ} {operation : D.Operation} {r : D.Record}
        → At records place r
        → Step capacity records pending (local place operation ▸ local_result (D.refusal r operation))
        (slice_set records place (D.operated r operation)) pending
    misses : {records : Rack D} {pending : Pending D} {place : ℕ} {operation : D.Operation}
        → ((r : D.Record) → At records place r → ⊥)
        → Step capacity records pending (local place operation ▸ refused (number_of NoChannel)) records pending

  -- Calls one after another. A run extends by any next call, so one who chooses each call knowing all earlier results
  -- is covered.
  pub data Run (capacity : ℕ) : Rack D → Pending D → Trace D → Rack D → Pending D → Type 0 where
    rests : {records : Rack D} {pending : Pending D} → Run capacity records pending [] records pending
    goes : {records : Rack D} {pending : Pending D} {e : Interaction D} {records' : Rack D} {pending' : Pending D}
        → {es : Trace D} {records'' : Rack D} {pending'' : Pending D}
        → Step capacity records pending e records' pending' → Run capacity records' pending' es records'' pending''
        → Run capacity records pending (e ∷ es) records'' pending''
