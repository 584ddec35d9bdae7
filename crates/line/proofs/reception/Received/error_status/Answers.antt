use Rattle.std.proofs.Common.{◌≡◌, ◌+◌, subst, rules}
use Rattle.line.specs.Views.{reception}
use Rattle.line.specs.Whole.{error_status, TellsDamage}
use Rattle.line.proofs.Soundness.{tells_damage}
use Rattle.line.proofs.reception.Received.error_status.Goals as goal

pub returns-clause-tells : goal.returns-clause-tells
returns-clause-tells c =
    let x = reception c.args.self in
    let e : error_status x ≡ 128 + c.if-self.parity + c.if-self-2.overrun + c.if-self-3.framing + c.if-check-eq0.wrong_check = search rules in
    subst (TellsDamage x) e (tells_damage x)
