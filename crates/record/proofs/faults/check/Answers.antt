use Rattle.std.proofs.Common.{sym, ◌∙◌}
use Rattle.record.proofs.FirstFaults.{first_fault}
use Rattle.record.proofs.faults.check.Goals as goal

pub returns-in-Some-clause-first : goal.returns-in-Some-clause-first
returns-in-Some-clause-first c = first_fault c.args.bytes.now c.in-Some.fault (sym c.fault_in.ensures ∙ c.in-Some.is)
