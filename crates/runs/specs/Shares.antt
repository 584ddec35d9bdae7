-- What the channels of a rack draw of the header.
use Rattle.std.specs.Prelude.{ℕ, zero, suc, ◌+◌, List, [], ◌∷◌}
use Rattle.runs.specs.Devices.{Device}
use Rattle.runs.specs.Traces.{Rack}

module _ {X : Type 0} where
  -- the sum of an amount over a list
  abbrev pub sum_of : (X → ℕ) → List X → ℕ
  sum_of amount [] = 0
  sum_of amount (x ∷ xs) = amount x + sum_of amount xs

  -- the same over all of the list but this place
  abbrev pub sum_but : (X → ℕ) → List X → ℕ → ℕ
  sum_but amount [] place = 0
  sum_but amount (x ∷ xs) zero = sum_of amount xs
  sum_but amount (x ∷ xs) (suc place) = amount x + sum_but amount xs place

module _ (D : Device) where
  abbrev pub share_of : D.Record → ℕ
  share_of r = D.share (D.nameplate r) (D.grant r)

  abbrev pub total : Rack D → ℕ
  total records = sum_of share_of records

  -- the shares of all channels but the one at this place
  abbrev pub others : Rack D → ℕ → ℕ
  others records place = sum_but share_of records place
