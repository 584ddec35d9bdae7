-- The check of a frame.
use Rattle.std.specs.Prelude.{ℕ, List, fold, bit_xor}

-- the exclusive or of a list of bytes
abbrev pub check_of : List ℕ → ℕ
check_of bytes = fold bit_xor 0 bytes
