-- Writes to one channel of a rack, one after another, as the rack itself goes through them.
use Rattle.std.specs.Prelude.{◌≡◌, ℕ, List, [], ◌∷◌, Ok, Result}
use Rattle.rack.specs.Edits.{Edit}

-- What one call of a rack's `write` does to the rack: from the one before to the one after, at a channel, by an edit, with its
-- answer.
abbrev pub WriteRelation : Type 0 → Type 1
WriteRelation X = X → X → ℕ → Edit → Result (Unit {0}) ℕ → Type 0

-- The rack went through exactly these writes in their order, each of them accepted: through none of them it is the same
-- value.
abbrev pub Writes : {X : Type 0} → WriteRelation X → ℕ → List Edit → X → X → Type 0
Writes wrote channel [] old new = new ≡ old
Writes {X} wrote channel (edit ∷ edits) old new =
    (next : X) × (wrote old next channel edit (Ok tt) × Writes wrote channel edits next new)
