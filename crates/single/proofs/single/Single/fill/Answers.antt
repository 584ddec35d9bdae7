use Rattle.std.proofs.Common.{ap, ◌∙◌}
use Rattle.std.proofs.lemmas.Option.{MatchOption-at_some}
use Rattle.std.proofs.lemmas.Result.{err_from_is_err_and}
use Rattle.rack.specs.Files.{or_fault}
use Rattle.single.proofs.OneRecord.{explained, one_answer, one_records, one_taken}
use Rattle.single.proofs.single.Single.fill.Goals as goal

pub returns-in_err-check_record-clause-answer : goal.returns-in_err-check_record-clause-answer
returns-in_err-check_record-clause-answer c =
    let p = err_from_is_err_and c.from_residual-in_err-check_record.result c.from_residual-in_err-check_record.ensures.1 in
    let whole = MatchOption-at_some _ _ c.in_ok-row.row c.in_ok-row.ensures.ok_part c.as_array.ensures.cases in
    rw (p.1, p.2) (ap or_fault c.in_err-check_record.ensures.fault ∙ one_answer c.args.file.now c.in_ok-row.row.now whole)

pub returns-clause-answer : goal.returns-clause-answer
returns-clause-answer c =
    let whole = MatchOption-at_some _ _ c.in_ok-row.row c.in_ok-row.ensures.ok_part c.as_array.ensures.cases in
    ap or_fault c.in_ok-check_record.ensures.fault ∙ one_answer c.args.file.now c.in_ok-row.row.now whole

pub returns-clause-after : goal.returns-clause-after
returns-clause-after c =
    let whole = MatchOption-at_some _ _ c.in_ok-row.row c.in_ok-row.ensures.ok_part c.as_array.ensures.cases in
    let records = one_records c.args.file.now c.in_ok-row.row.now whole in
    cc

pub returns-in_err-check_record-clause-explains : goal.returns-in_err-check_record-clause-explains
returns-in_err-check_record-clause-explains c =
    let p = err_from_is_err_and c.from_residual-in_err-check_record.result c.from_residual-in_err-check_record.ensures.1 in
    let whole = MatchOption-at_some _ _ c.in_ok-row.row c.in_ok-row.ensures.ok_part c.as_array.ensures.cases in
    rw (p.1, p.2) (explained c.args.file.now c.in_ok-row.row.now whole _ c.in_err-check_record.ensures.names)

pub returns-clause-taken : goal.returns-clause-taken
returns-clause-taken c =
    let whole = MatchOption-at_some _ _ c.in_ok-row.row c.in_ok-row.ensures.ok_part c.as_array.ensures.cases in
    one_taken c.args.file.now c.in_ok-row.row.now whole c.in_ok-check_record.ensures.lawful
