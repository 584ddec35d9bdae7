use Rattle.std.proofs.Common.{arith}
use Rattle.line.specs.Marks.{marks_number}
use Rattle.receiver.specs.Holding.{character}
use Rattle.receiver.proofs.Holding.{holds_more}
use Rattle.receiver.proofs.state.Receiver.push.Goals as goal

pub returns-clause-holds : goal.returns-clause-holds
returns-clause-holds c = holds_more c.args.self.now c.keep.new.self (character c.args.byte (marks_number c.args.marks)) (omega arith) c.keep.ensures
