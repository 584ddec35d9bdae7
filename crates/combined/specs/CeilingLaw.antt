-- Why the law of a rack holds under a ceiling.
use Rattle.std.specs.Prelude.{ℕ, List}
use Rattle.std.proofs.Common.{arith}
use Rattle.std.specs.List.{AllByRecursion}
use Rattle.std.proofs.ByRecursion.{All-map, All-weaker}
use Rattle.record.specs.declared.Record.{Record}
use Rattle.record.specs.Lawful.{Lawful}
use Rattle.combined.specs.Ceilings.{lowered, lowered_all}

-- the law stands under a ceiling
lowered_lawful : (p : ℕ) (r : Record) → Lawful r → Lawful (lowered p r)
lowered_lawful p r h = record {
  fields = record {
    identification = h.fields.identification;
    polling_address = h.fields.polling_address;
    preambles = h.fields.preambles;
    assembly_number = h.fields.assembly_number;
    setpoint = h.fields.setpoint;
    ceiling = omega (arith, h.fields.ceiling);
    full_scale = h.fields.full_scale;
  };
  reading = h.reading;
  text = h.text;
}

pub all_lowered : (p : ℕ) (records : List Record)
    → AllByRecursion Lawful records → AllByRecursion Lawful (lowered_all p records)
all_lowered p records h =
    All-map Lawful (lowered p) records
    (All-weaker Lawful (λ r. Lawful (lowered p r)) (lowered_lawful p) records h)
