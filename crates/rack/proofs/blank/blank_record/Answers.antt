use Rattle.std.proofs.Common.{refl, arith}
use lib.Ieee
use Rattle.std.specs.Float.{float_is_finite}
use Rattle.record.specs.Lawful.{Lawful}
use Rattle.rack.specs.Blank.{blank_record}
use Rattle.rack.proofs.blank.blank_record.Goals as goal

blank_lawful : Lawful blank_record
unfolding lib.Ieee.le lib.Ieee.of_bits lib.Ieee.fits float_is_finite
blank_lawful = record {
  fields = record {
    identification = omega arith;
    polling_address = omega arith;
    preambles = (omega arith, omega arith);
    assembly_number = omega arith;
    setpoint = (omega arith, refl);
    ceiling = omega arith;
    full_scale = refl;
  };
  reading = ((refl, refl), (refl, refl));
  text = refl;
}

pub returns-clause-lawful : goal.returns-clause-lawful
returns-clause-lawful c = rw (c.value_of.ensures, c.value_of-2.ensures) blank_lawful
