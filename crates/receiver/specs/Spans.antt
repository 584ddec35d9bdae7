-- How much is kept of a transmission.
use Rattle.std.specs.Prelude.{ℕ, ◌<◌, List, Option}
use Rattle.std.specs.Coded.{le_prop}
use Rattle.std.specs.List.{AllByRecursion, AllByRecursion-prop}
use Rattle.std.specs.Option.{unwrap_or}
use Rattle.frame.specs.Frames.{longest_frame}

-- how many bytes are kept: of a span that is longer than any frame, as many as the longest has
abbrev pub kept_length : Option ℕ → ℕ
kept_length len = unwrap_or len longest_frame

-- all are bytes
abbrev pub Bytes : List ℕ → Type 0
Bytes = AllByRecursion (λ b. b < 256)

pub Bytes-prop : (bytes : List ℕ) → IsProp (Bytes bytes)
Bytes-prop = AllByRecursion-prop (λ b. b < 256) (λ b. le_prop)
