-- How a recording is read by blocks.
use Rattle.std.specs.Prelude.{ℕ}

-- the bytes that a block has room for: 5,461 whole events, as many as 64 KiB hold
abbrev pub block_length : ℕ
block_length = 65532

-- the bytes that each read has room for at least: where it takes a part of what came as one, the rest may be lost
abbrev pub least_room : ℕ
least_room = 4096
