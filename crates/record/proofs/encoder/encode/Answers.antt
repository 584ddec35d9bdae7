use Rattle.std.proofs.Common.{sym, subst, rules}
use Rattle.record.specs.Inverse.{ReadsBack}
use Rattle.record.proofs.Inverse.{reads_back}
use Rattle.record.proofs.encoder.encode.Goals as goal

pub returns-clause-back : goal.returns-clause-back
returns-clause-back c = λ h. subst (ReadsBack c.args.«record».now) (sym (search rules)) (reads_back c.args.«record».now h)
