use Rattle.std.specs.Prelude.{ℕ, ◌*◌}

-- The share of a channel, a term of this project: its setpoint's load times its full scale in mL/min.
abbrev pub share_of : ℕ → ℕ → ℕ
share_of load full_scale = load * full_scale
