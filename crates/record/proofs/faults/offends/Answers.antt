use Rattle.std.proofs.Common.{arith}
use Rattle.record.proofs.Faultless.{reserved_read}
use Rattle.record.proofs.faults.offends.Goals as goal

pub returns-in-Reserved : goal.returns-in-Reserved
returns-in-Reserved c = let e = reserved_read c.args.bytes.now (omega arith) in rw (c.in-Reserved.is, c.all_zero.ensures, e)
