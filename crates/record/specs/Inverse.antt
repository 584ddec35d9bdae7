-- Encoding and decoding undo each other.
use Rattle.std.specs.Prelude.{◌≡◌, ℕ, List, None}
use Rattle.record.specs.declared.Record.{Record}
use Rattle.record.specs.Faults.{fault_of}
use Rattle.record.specs.Lawful.{Lawful}
use Rattle.record.specs.Layout.{encoded, decoded}

-- The bytes are without a fault, and decode to the record.
pub record ReadsBack (r : Record) (bytes : List ℕ) : Type 0 where
  pub faultless : fault_of bytes ≡ None
  pub same : decoded bytes ≡ r

-- The record is lawful, and encodes to the bytes.
pub record EncodesAgain (bytes : List ℕ) (r : Record) : Type 0 where
  pub lawful : Lawful r
  pub same : encoded r ≡ bytes
