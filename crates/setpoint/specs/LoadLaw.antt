use Rattle.std.specs.Prelude.{◌≡◌, ℕ, ◌*◌, ◌≤◌, true, Float}
use Rattle.std.specs.Float.{nan, inf, fin}
use Rattle.std.specs.Float.Ieee.{up, down}
use Rattle.setpoint.specs.Load.{has_load?, load_of}
use Rattle.setpoint.specs.Numbers.{parts_of_a_percent}

-- n is the load of x, without a division: x times 1,024 is at most n,
-- and every whole number that x times 1,024 does not exceed is at least n.
abbrev pub IsLoad : Float → ℕ → Type 0
IsLoad nan n = ⊥
IsLoad (inf s) n = ⊥
IsLoad (fin s m e) n =
    (m * up e * parts_of_a_percent ≤ n * down e)
    × ((k : ℕ) → m * up e * parts_of_a_percent ≤ k * down e → n ≤ k)

-- The law of the load: where there is one, `load_of` is it, however large.
abbrev pub LoadLaw : Float → Type 0
LoadLaw x = has_load? x ≡ true → IsLoad x (load_of x)
