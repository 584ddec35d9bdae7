use Rattle.std.proofs.Common.{◌≡◌, ◌<◌, ℕ, List, None, sym, arith, rules}
use Rattle.std.specs.Prelude.{Result, Ok, Err}
use Rattle.std.specs.Result.{result_err, IfErr}
use Rattle.record.specs.declared.faults.RecordFault.{RecordFault}
use Rattle.record.specs.Faults.{FirstFault}
use Rattle.std.proofs.ByRecursion.{All-from_get_or}
use Rattle.record.specs.Faults.{fault_of}
use Rattle.record.proofs.FirstFaults.{first_fault}
use Rattle.record.proofs.Inverse.{encodes_again}
use Rattle.record.proofs.decoder.decode.Goals as goal

first : (bytes : List ℕ) (r : Result (Unit {0}) RecordFault) → result_err r ≡ fault_of bytes → IfErr r (λ fault. FirstFault bytes fault)
first bytes (Ok x) e = tt
first bytes (Err fault) e = first_fault bytes fault (sym e)

pub returns-in_err-check-clause-first : goal.returns-in_err-check-clause-first
returns-in_err-check-clause-first c = first c.args.bytes.now c.from_residual.result (search rules)

pub returns : goal.returns
returns c =
    let none : fault_of c.args.bytes.now ≡ None = search rules in
    record {
      fault = sym none;
      first = tt;
      after = search rules;
      again = encodes_again c.args.bytes.now _ (omega arith) (All-from_get_or (λ b. b < 256) c.args.bytes.now 0 (λ i _. c.fits-bytes i)) none (search rules);
    }
