use Rattle.std.proofs.Common.{◌++◌, append_assoc, codes, sym, ◌≡◌, ◌∙◌}
use Rattle.std.specs.Fmt.{decimal}
use Rattle.refusals.specs.Refusals as refusals
use Rattle.refusals.specs.declared.Refusal.{Refusal}
use Rattle.record.specs.Faults as faults
use Rattle.rack.specs.Files.{refusal_of, words_of}
use Rattle.rack.specs.declared.files.FileFault.{FileFault}
use Rattle.rack.specs.declared.files.FileFault.TheVariants.{Record as Bad}
use Rattle.rack.specs.declared.files.RecordError.{RecordError}
use Rattle.rack.proofs.files.FileFaultDisplay.fmt.Goals as goal

-- the words of a bad record, by its refusal and its error as the code has them
printed : (r : Refusal) (fault : FileFault) (e e' : RecordError) → r ≡ refusal_of fault → fault ≡ Bad e' → e ≡ e'
    → refusals.words_of r ++ (codes " " ++ (decimal e.number ++ (codes ": " ++ faults.words_of e.fault))) ≡ words_of fault
printed r fault e e' h i j =
    let number = decimal e'.number in
    let field = faults.words_of e'.fault in
    let words = refusals.words_of (refusal_of (Bad e')) in
    rw (h, i, j) (sym (append_assoc (words ++ codes " " ++ number) (codes ": ") field ∙ (append_assoc (words ++ codes " ") number (codes ": " ++ field) ∙ append_assoc words (codes " ") (number ++ (codes ": " ++ field)))))

pub returns-in-Record-clause-writes : goal.returns-in-Record-clause-writes
returns-in-Record-clause-writes g c f o =
    rw (← printed c.refusal-refusal.result c.args.self.now _ c.in-Record.field-0 c.refusal-refusal.ensures c.in-Record.is c.in-Record.field-0-is) (c.write-in-Record.ensures.writes f o)
