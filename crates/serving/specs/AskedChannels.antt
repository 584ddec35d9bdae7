-- The record of a channel as a reply is told of it.
use Rattle.std.specs.Prelude.{◌≡◌, ℕ, List, Some, None, Option, refl}
use Rattle.std.specs.List.{AllByRecursion}
use Rattle.std.specs.Option.{option_map, unwrap_or}
use Rattle.std.proofs.Common.{lit<, lit≤}
use Rattle.rack.specs.Blank.{blank_record}
use Rattle.rack.specs.Meaning.{channel_of}
use Rattle.rack.proofs.Meaning.{channel_lawful}
use Rattle.record.specs.Lawful.{Lawful, LawfulFields}
use Rattle.record.specs.declared.Fields.{Fields}
use Rattle.record.specs.declared.Record.{Record}

-- the fields of a channel, if there is one
abbrev pub fields_of : List Record → ℕ → Option Fields
fields_of records channel = option_map (λ r. r.fields) (channel_of records channel)

-- a blank one stands for one that there is not
abbrev pub record_of : List Record → ℕ → Record
record_of records channel = unwrap_or (channel_of records channel) blank_record

blank_lawful : LawfulFields blank_record.fields
unfolding lib.Ieee.le lib.Ieee.of_bits
blank_lawful = record {
  identification = lit< tt;
  polling_address = lit≤ tt;
  preambles = (lit≤ tt, lit≤ tt);
  assembly_number = lit< tt;
  setpoint = (lit< tt, refl);
  ceiling = lit≤ tt;
  full_scale = refl;
}

pub asked_lawful : (records : List Record) (channel : ℕ)
    → AllByRecursion Lawful records → LawfulFields (record_of records channel).fields
asked_lawful records channel lawful = go (channel_of records channel) refl
  where
    go : (o : Option Record) → channel_of records channel ≡ o
        → LawfulFields (unwrap_or o blank_record).fields
    go (Some r) e = (channel_lawful records channel r lawful e).fields
    go None e = blank_lawful
