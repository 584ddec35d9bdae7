use Rattle.std.specs.Prelude.{◌≡◌, ℕ, ◌≤◌, true, ◌⊎◌, is_ok}
use Rattle.setpoint.specs.Lawful.{lawful?}
use Rattle.setpoint.specs.Load.{has_load?, load_of}
use Rattle.setpoint.specs.Numbers.{full_load, minus_zero, most_percent}
use Rattle.setpoint.specs.Refusals.{admitted_under}
use Rattle.setpoint.specs.Value.{value_of}

-- A lawful setpoint has a load, of at most that of 100 percent. And a ceiling of at most 100 percent admits
-- no other setpoints than the lawful ones and minus zero.
pub record LawfulLaws (pattern : ℕ) : Type 0 where
  pub loaded : lawful? pattern ≡ true → has_load? (value_of pattern) ≡ true
  pub bounded : lawful? pattern ≡ true → load_of (value_of pattern) ≤ full_load
  pub admits : (percent : ℕ) → percent ≤ most_percent → is_ok (admitted_under percent (value_of pattern)) ≡ true
      → (lawful? pattern ≡ true) ⊎ (pattern ≡ minus_zero)
