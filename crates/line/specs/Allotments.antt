-- What a setpoint is weighed by.
use Rattle.std.specs.Prelude.{ℕ, ◌+◌, Bool}
use Rattle.header.specs.Shares.{fits?}

-- the supply in mL/min, and the sum of the other channels' shares
pub record Allotment : Type 0 where
  pub supply : ℕ
  pub others : ℕ

-- whether a share, in the place of the channel's old one, fits beside the others'
abbrev pub allots? : Allotment → ℕ → Bool
allots? a share = fits? a.supply (a.others + share)
