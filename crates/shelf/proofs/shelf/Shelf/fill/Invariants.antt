use Rattle.std.proofs.Common.{◌≡◌, drop, take}
use Rattle.std.specs.List.{AllByRecursion}
use Rattle.record.specs.Lawful.{Lawful}
use Rattle.rack.specs.Files.{first_bad}
use Rattle.shelf.specs.Rows.{Faultless, records_in}
use Rattle.shelf.proofs.shelf.Shelf.fill.Given as goal

abbrev pub invariant-loop-number : goal.invariant-loop-number
invariant-loop-number l = record {
  faultless : first_bad l.number (drop l.number l.rows) ≡ first_bad 0 l.rows;
  rows : AllByRecursion Faultless (take l.number l.rows);
  lawful : AllByRecursion Lawful (records_in (take l.number l.rows));
}
