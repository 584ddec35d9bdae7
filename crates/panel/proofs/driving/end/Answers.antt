use Rattle.std.proofs.Common.{take}
use native.Mathlib.Nat.{sub-zero}
use Rattle.runs.specs.Traces.{silent, refused, answered}
use Rattle.refusals.specs.Refusals.{number_of}
use Rattle.panel.proofs.Through.{wrote_by}
use Rattle.panel.proofs.driving.end.Goals as goal

pub returns-in-Ok-None : goal.returns-in-Ok-None
returns-in-Ok-None g c = record {
  result = silent;
  does = rw c.in-Ok-None.field-0-is at c.in-Ok-None.ensures.does;
  through = wrote_by c.args.panel.now c.gap.new.self c.args.out.now c.in-Ok-None.ensures.writes;
  heard = c.hear.ensures;
  left = rw c.in-Ok-None.field-0-is at c.in-Ok-None.ensures.buffer;
}

pub returns-in-Ok-Some : goal.returns-in-Ok-Some
returns-in-Ok-Some g c = record {
  result = answered c.in-Ok-Some.field-0-0.channel (take c.in-Ok-Some.field-0-0.length c.gap.new.out);
  does = rw c.in-Ok-Some.field-0-is at c.in-Ok-Some.ensures.does;
  through = wrote_by c.args.panel.now c.gap.new.self c.args.out.now c.in-Ok-Some.ensures.writes;
  heard = rw (← sub-zero c.in-Ok-Some.field-0-0.length) c.hear-in-Ok-Some.ensures;
  left = rw c.in-Ok-Some.field-0-is at c.in-Ok-Some.ensures.buffer;
}

pub returns-in-Err : goal.returns-in-Err
returns-in-Err g c = record {
  result = refused (number_of c.in-Err.refusal);
  does = c.in-Err.ensures.does;
  through = wrote_by c.args.panel.now c.gap.new.self c.args.out.now c.in-Err.ensures.writes;
  heard = c.hear-in-Err.ensures;
  left = c.in-Err.ensures.buffer;
}
