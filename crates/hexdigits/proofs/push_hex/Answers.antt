use Rattle.std.proofs.Common.{◌<◌, arith}
use Rattle.std.proofs.ByRecursion.{All-from_get_or}
use Rattle.hexdigits.proofs.Reading.{hex_back}
use Rattle.hexdigits.proofs.push_hex.Goals as goal

pub returns-then-is_err-clause-back : goal.returns-then-is_err-clause-back
returns-then-is_err-clause-back c = hex_back c.args.bytes.now (All-from_get_or (λ b. b < 256) c.args.bytes.now 0 (λ i _. omega (arith, c.type_inv.bytes i)))

pub returns-else-is_err-clause-back : goal.returns-else-is_err-clause-back
returns-else-is_err-clause-back c = hex_back c.args.bytes.now (All-from_get_or (λ b. b < 256) c.args.bytes.now 0 (λ i _. omega (arith, c.type_inv.bytes i)))
