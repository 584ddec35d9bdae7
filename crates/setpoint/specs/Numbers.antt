-- The numbers of setpoints, loads and full scales.
use Rattle.std.specs.Prelude.{ℕ, ◌*◌}

-- The parts of a percent that a load counts.
abbrev pub parts_of_a_percent : ℕ
parts_of_a_percent = 1024

-- The largest setpoint, in whole percent.
abbrev pub most_percent : ℕ
most_percent = 100

-- The load of the largest setpoint.
abbrev pub full_load : ℕ
full_load = most_percent * parts_of_a_percent

-- The largest full scale, in mL/min.
abbrev pub most_full_scale : ℕ
most_full_scale = 1000000

-- The pattern of minus zero.
abbrev pub minus_zero : ℕ
minus_zero = 0x8000_0000
