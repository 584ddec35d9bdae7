-- Two writes to one channel, one after the other.
use Rattle.std.specs.Prelude.{ℕ, true, List, [], ◌∷◌}
use Rattle.record.specs.declared.Record.{Record}
use Rattle.rack.specs.Edits.{Edit, key, polling_address}
use Rattle.rack.specs.Meaning.{after_at}

abbrev pub opened_address : ℕ
opened_address = 7

-- the key is opened, and then the polling address is written
abbrev pub opening : List Edit
opening = key true ∷ polling_address opened_address ∷ []

-- the records with a channel's key open and 7 for its polling address
abbrev pub opened : List Record → ℕ → List Record
opened records channel = after_at (after_at records channel (key true)) channel (polling_address opened_address)
