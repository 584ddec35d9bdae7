use Rattle.std.proofs.Common.{refl}
use Rattle.panel.proofs.Working.{begins}
use Rattle.panel.proofs.state.Panel.set_up.Goals as goal

pub returns-clause-underway : goal.returns-clause-underway
returns-clause-underway g c = begins c.args.self.now _ c.args.supply refl refl c.clear.ensures c.in_ok-check.ensures.taken
