-- A recording: events of 12 bytes, one after another; fewer than 12 bytes may be left at its end.
use Rattle.std.specs.Prelude.{◌≡◌, ℕ, ◌*◌, ◌/◌, List, ◌++◌, length, drop}
use Rattle.std.specs.Simd.{first_chunks}

-- the bytes of an event
abbrev pub event_length : ℕ
event_length = 12

-- the complete events
abbrev pub events_of : List ℕ → List (List ℕ)
events_of bytes = first_chunks event_length (length bytes / event_length) bytes

-- the bytes of the last, incomplete one
abbrev pub rest_of : List ℕ → List ℕ
rest_of bytes = drop (length bytes / event_length * event_length) bytes

-- Cut in two at any place, a recording has the events of its first part, and then those of what that leaves with the
-- second part; and of both the same is left.
abbrev pub CutAnywhere : Type 0
CutAnywhere = (a b : List ℕ) → (events_of (a ++ b) ≡ events_of a ++ events_of (rest_of a ++ b))
    × (rest_of (a ++ b) ≡ rest_of (rest_of a ++ b))
