-- An admitted setpoint keeps the law.
use Rattle.std.proofs.Common.{◌≡◌, ℕ, ◌≤◌, true, is_ok, refl, inl, inr}
use lib.Ieee
use Rattle.std.proofs.lemmas.Bool.{eq-eqb, ne_eqb, cases_eq}
use Rattle.setpoint.specs.Lawful.{lawful?}
use Rattle.setpoint.specs.Numbers.{minus_zero}
use Rattle.setpoint.specs.Refusals.{admitted_under}
use Rattle.setpoint.specs.Value.{value_of}
use Rattle.setpoint.proofs.Percents.{lawful_laws}
use Rattle.rack.specs.Changes.{stored_pattern}

-- what is stored of an admitted setpoint is lawful
pub stored_lawful : (p c : ℕ) → c ≤ 100 → is_ok (admitted_under c (value_of p)) ≡ true → lawful? (stored_pattern p) ≡ true
unfolding lib.Ieee.le lib.Ieee.of_bits
stored_lawful p c h e = elim (cases_eq p minus_zero) [
  | inl z ↦ rw (eq-eqb p minus_zero z) refl
  | inr n ↦ rw (ne_eqb p minus_zero n) (elim ((lawful_laws p).admits c h e) [ inl l ↦ l | inr z ↦ absurd (n z) ])
]
