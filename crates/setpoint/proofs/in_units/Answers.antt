use Rattle.std.proofs.Common.{ℕ, ◌≡◌, ◌≤◌, leb, true, sym}
use Rattle.std.proofs.lemmas.Bool.{and_parts, leb-true}
use Rattle.setpoint.specs.Numbers.{most_full_scale}
use Rattle.setpoint.specs.Units.{full_scale?}
use Rattle.setpoint.proofs.Rounding.{lawful_pattern, computed_number, computed_finite, computed_units}
use Rattle.setpoint.proofs.in_units.Goals as goal

full : (n : ℕ) → true ≡ full_scale? n → (1 ≤ n) × (n ≤ most_full_scale)
full n e = let p = and_parts (leb 1 n) (leb n most_full_scale) (sym e) in (leb-true 1 n p.0, leb-true n most_full_scale p.1)

pub float_from_bits-units : goal.float_from_bits-units
float_from_bits-units c = lawful_pattern c.args.pattern (sym c.if-lawful.ensures.value)

pub float_to_bits-result : goal.float_to_bits-result
float_to_bits-result c = computed_number c.args.pattern c.args.full_scale (sym c.if-lawful.ensures.value) (full c.args.full_scale c.if-is_full_scale.ensures).1

pub returns-then-is_full_scale : goal.returns-then-is_full_scale
returns-then-is_full_scale c =
    let f = full c.args.full_scale c.if-is_full_scale.ensures in
    record {
      value = computed_units c.args.pattern c.args.full_scale (sym c.if-lawful.ensures.value) f.0 f.1;
      number = computed_finite c.args.pattern c.args.full_scale (sym c.if-lawful.ensures.value) f.1;
    }
