use Rattle.std.proofs.Common.{◌≡◌, true, arith}
use Rattle.std.proofs.lemmas.Bool.Decides.{nat_tests}
use Rattle.refusals.proofs.Filling.{fills_holding}
use Rattle.text.specs.Text.{text?, ReadsBack}
use Rattle.text.proofs.Inverse.{reads_back}
use Rattle.text.proofs.pack.Goals as goal

pub returns-clause-back : goal.returns-clause-back
returns-clause-back c =
    let formed : text? c.args.text.now ≡ true = grind (arith, nat_tests) in
    fills_holding (ReadsBack c.args.text.now) c.regroup.result c.regroup.ensures (reads_back c.args.text.now formed)
