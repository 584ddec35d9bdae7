-- What writes to a channel do whose record takes them all.
use Rattle.std.specs.Prelude.{◌≡◌, ℕ, List, Some, slice_set}
use Rattle.rack.specs.Edits.{Edit}
use Rattle.rack.specs.Meaning.{channel_of}
use Rattle.rack.specs.Writes.{WriteRelation, Writes}
use Rattle.record.specs.declared.Fields.{Fields}
use Rattle.record.specs.declared.Record.{Record}
use Rattle.line.specs.Edits.{Admitted, after_edits}

module _ {X : Type 0} (records : X → List Record) (wrote : WriteRelation X) where
  -- the rack goes through just these writes, and means the record that they leave
  pub record Written (channel : ℕ) (es : List Edit) (r : Record) (before after : X) : Type 0 where
    pub writes : Writes wrote channel es before after
    pub leaves : records after ≡ slice_set (records before) channel (after_edits es r)

  -- where the channel's record takes them all, one after another
  abbrev pub WritesAll : ℕ → List Edit → X → X → Type 0
  WritesAll channel es before after =
      (r : Record) → channel_of (records before) channel ≡ Some r → Admitted es r
      → Written channel es r before after

  -- the same, and the fields that the channel has then
  pub record Carried (channel : ℕ) (es : List Edit) (r : Record)
      (before after : X) (fields : Fields) : Type 0 where
    pub written : Written channel es r before after
    pub fields_are : fields ≡ (after_edits es r).fields

  abbrev pub CarriesOut : ℕ → Fields → List Edit → X → X → Fields → Type 0
  CarriesOut channel fields es before after fields' =
      (r : Record) → channel_of (records before) channel ≡ Some r
      → fields ≡ r.fields → Admitted es r → Carried channel es r before after fields'
