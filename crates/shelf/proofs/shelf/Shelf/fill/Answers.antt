use Rattle.std.proofs.Common.{◌≡◌, Some, sym, ap, ◌∙◌, arith}
use Rattle.std.proofs.lemmas.Result.{err_from_is_err_and}
use Rattle.std.proofs.lemmas.Bool.Decides.{nat_tests}
use Rattle.std.proofs.lemmas.Grind.{common_steps}
use Rattle.rack.specs.Files.{first_bad, rows_of}
use Rattle.shelf.proofs.FileRows.{none_more, found, none_told, faultless_more, lawful_more}
use Rattle.shelf.proofs.shelf.Shelf.fill.Goals as goal

pub returns-in_err-check_record-clause-answer : goal.returns-in_err-check_record-clause-answer
returns-in_err-check_record-clause-answer c =
    let p = err_from_is_err_and c.from_residual-in_err-check_record.result c.from_residual-in_err-check_record.ensures.1 in
    let rows = c.as_chunks.result.0.now in
    let e = c.in_err-check_record.field-0.0 in
    let f : first_bad 0 (rows_of c.args.file.now) ≡ Some e = ap (first_bad 0) (sym c.as_chunks.ensures.front) ∙ found rows c.loop-number.number (omega arith) c.loop-number.invariant.faultless e c.in_err-check_record.ensures.fault in
    rw (p.1, p.2) (grind (arith, common_steps, nat_tests))

pub loop-number-preserved : goal.loop-number-preserved
loop-number-preserved c =
    let rows = c.as_chunks.result.0.now in
    let i = c.loop-number.number in
    record {
      faultless = none_more rows i (omega arith) c.loop-number.invariant.faultless c.in_ok-check_record.ensures.fault;
      rows = faultless_more rows i (omega arith) c.loop-number.invariant.rows (none_told i _ c.in_ok-check_record.ensures.fault);
      lawful = lawful_more rows i (omega arith) c.loop-number.invariant.lawful c.in_ok-check_record.ensures.lawful;
    }
