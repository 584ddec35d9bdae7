use Rattle.std.proofs.Common.{rules}
use Rattle.receiver.proofs.Holding.{keeps_some}
use Rattle.receiver.proofs.Pending.{holds_pending}
use Rattle.receiver.proofs.state.Receiver.received.Goals as goal

pub returns-clause-holds : goal.returns-clause-holds
returns-clause-holds c = holds_pending c.args.self.now

pub returns-in_err-self-clause-holds : goal.returns-in_err-self-clause-holds
returns-in_err-self-clause-holds c = holds_pending c.args.self.now

pub returns-clause-keeps : goal.returns-clause-keeps
returns-clause-keeps c = keeps_some c.args.self.now _ (search rules)
