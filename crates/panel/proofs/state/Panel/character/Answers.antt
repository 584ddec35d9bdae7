use Rattle.std.proofs.Common.{refl}
use Rattle.std.proofs.lemmas.Result.{err_from_is_err_and}
use Rattle.line.specs.Marks.{marks_number}
use Rattle.refusals.specs.Refusals.{number_of}
use Rattle.panel.proofs.Doing.{hears, unheard}
use Rattle.panel.proofs.Working.{goes_on}
use Rattle.panel.proofs.state.Panel.character.Goals as goal

pub returns : goal.returns
returns g c =
    let d = hears c.args.self.now c.args.byte c.args.marks _ (marks_number c.in_ok-marks.marks) c.in_ok-marks.ensures refl refl c.push.ensures.holds in
    record { does = d; on = goes_on d; same = λ e. absurd (cc); rack = refl }

pub returns-in_err-marks : goal.returns-in_err-marks
returns-in_err-marks g c =
    let e = err_from_is_err_and c.from_residual.result c.from_residual.ensures.1 in
    let d = unheard c.args.self.now c.args.byte c.args.marks (number_of c.in_err-marks.field-0.0) c.in_err-marks.ensures in
    record { does = rw (e.1, e.2) d; on = rw (e.1, e.2) (goes_on d); same = λ _. refl; rack = refl }
