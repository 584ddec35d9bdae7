use Rattle.std.proofs.Common.{◌≡◌, ◌<◌, true, arith}
use Rattle.std.proofs.lemmas.Bool.Decides.{nat_tests}
use Rattle.std.proofs.ByRecursion.{All-from_get_or}
use Rattle.refusals.proofs.Filling.{fills_holding}
use Rattle.text.specs.Text.{packed?, PacksAgain}
use Rattle.text.proofs.Inverse.{packs_again}
use Rattle.text.proofs.unpack.Goals as goal

pub returns-clause-back : goal.returns-clause-back
returns-clause-back c =
    let formed : packed? c.args.packed.now ≡ true = grind (arith, nat_tests) in
    fills_holding (PacksAgain c.args.packed.now) c.regroup.result c.regroup.ensures (packs_again c.args.packed.now (All-from_get_or (λ b. b < 256) c.args.packed.now 0 (λ i _. omega (arith, c.type_inv.packed i))) formed)
