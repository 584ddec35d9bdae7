use Rattle.std.proofs.Common.{◌≡◌, not, eqb, subst, rules}
use Rattle.line.specs.Views.{reception}
use Rattle.line.specs.Whole.{sound?, TellsSound}
use Rattle.line.proofs.Soundness.{tells_sound}
use Rattle.line.proofs.reception.Received.is_sound.Goals as goal

pub returns-then-not-any-clause-tells : goal.returns-then-not-any-clause-tells
returns-then-not-any-clause-tells c =
    let x = reception c.args.self in
    let e : sound? x ≡ eqb c.check.result 0 = search rules in
    subst (TellsSound x) e (tells_sound x)

pub returns-else-not-any-clause-tells : goal.returns-else-not-any-clause-tells
returns-else-not-any-clause-tells c =
    let x = reception c.args.self in
    let e : sound? x ≡ not c.any.result = search rules in
    subst (TellsSound x) e (tells_sound x)
