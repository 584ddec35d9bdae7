use Rattle.std.proofs.Common.{◌≡◌, ◌<◌, ℕ, List, sym, subst, Option, Some, None, refl, rules}
use Rattle.std.specs.Prelude.{Result, Ok, Err}
use Rattle.std.specs.Result.{result_err, IfErr, OnOk}
use Rattle.std.proofs.lemmas.Option.{none-some, same_Some}
use Rattle.std.proofs.ByRecursion.{All-from_get_or}
use Rattle.record.specs.declared.faults.RecordFault.{RecordFault}
use Rattle.record.specs.Faults.{fault_of}
use Rattle.record.proofs.Faultless.{from_faultless}
use Rattle.record.proofs.FirstFaults.{first_fault}
use Rattle.rack.specs.declared.files.RecordError.{RecordError}
use Rattle.rack.specs.Files.{fault_in, Reports}
use Rattle.rack.proofs.files.check_record.Goals as goal

-- where no error is made of a fault, there was none
none_made : (number : ℕ) (fault : Option RecordFault) {P : Type 0} → (fault ≡ None → P) → (r : Result (Unit {0}) RecordError) → result_err r ≡ fault_in number fault None → OnOk r P
none_made number None p (Ok x) e = p refl
none_made number (Some f) p (Ok x) e = absurd (none-some _ e)
none_made number fault p (Err x) e = tt

pub returns-clause-lawful : goal.returns-clause-lawful
returns-clause-lawful c =
    let row = c.args.row.now in
    none_made c.args.number (fault_of row) (λ none. (from_faultless row c.told-row (All-from_get_or (λ b. b < 256) row 0 (λ i _. c.fits-row i)) none).lawful) c.map_err.result (search rules)

-- an error that is made of a row's fault names it
named : (number : ℕ) (row : List ℕ) (fault : Option RecordFault) → fault_of row ≡ fault → (r : Result (Unit {0}) RecordError) → result_err r ≡ fault_in number fault None → IfErr r (Reports number row)
named number row fault q (Ok x) e = tt
named number row None q (Err x) e = absurd (none-some x (sym e))
named number row (Some f) q (Err x) e =
    let s : x ≡ record { number = number; fault = f } = same_Some _ _ e in
    subst (Reports number row) (sym s) (record { numbers = refl; first = first_fault row f q })

pub returns-clause-names : goal.returns-clause-names
returns-clause-names c = named c.args.number c.args.row.now (fault_of c.args.row.now) refl c.map_err.result (search rules)
