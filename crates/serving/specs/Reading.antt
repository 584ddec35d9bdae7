-- What a rack tells of a channel's text.
use Rattle.std.specs.Prelude.{◌≡◌, ℕ, List, take, drop, Some}
use Rattle.rack.specs.Meaning.{channel_of}
use Rattle.record.specs.declared.Record.{Record}

-- as many bytes from a place on, where there is such a channel
abbrev pub TellsText : List Record → ℕ → ℕ → ℕ → List ℕ → Type 0
TellsText records channel at count told =
    (r : Record) → channel_of records channel ≡ Some r → told ≡ take count (drop at r.text)
