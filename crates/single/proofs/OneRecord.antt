-- A file of one record.
use Rattle.std.proofs.Common.{◌≡◌, ℕ, List, [], ◌∷◌, map, take, None, sym, refl, ap, subst, ◌∙◌, arith}
use Rattle.std.proofs.lemmas.List.{take_all}
use Rattle.std.specs.Array.{IsWholeChunk}
use Rattle.std.specs.List.{AllByRecursion}
use Rattle.record.specs.Faults.{fault_of}
use Rattle.record.specs.Lawful.{Lawful}
use Rattle.record.specs.Layout.{decoded}
use Rattle.rack.specs.Files.{fault_in, rows_of, or_fault, file_answer, file_records, Explains, FirstBad, Reports, OfRecords, Taken}
use Rattle.rack.specs.declared.files.FileFault.TheVariants.{Record as Bad}
use Rattle.rack.specs.declared.files.RecordError.{RecordError}

module _ (file row : List ℕ) (whole : IsWholeChunk file row 80) where
  one_row : rows_of file ≡ row ∷ []
  one_row = rw whole.long (ap (λ (row : List ℕ). row ∷ []) (take_all 80 file (omega (arith, whole.long)) ∙ sym whole.same))

  pub one_answer : or_fault (fault_in 0 (fault_of row) None) ≡ file_answer 1 file
  one_answer = rw (one_row, whole.long) refl

  pub one_records : decoded row ∷ [] ≡ file_records file
  one_records = sym (ap (map decoded) one_row)

  counted : OfRecords 1 file
  counted = record { whole = rw whole.long refl; some = rw whole.long (omega arith); few = rw whole.long (omega arith) }

  first_bad : (e : RecordError) → Reports 0 row e → FirstBad (rows_of file) e
  first_bad e n = record {
    row = row;
    there = rw (one_row, n.numbers) refl;
    field = n.first;
    before = subst (λ (k : ℕ). AllByRecursion Lawful (map decoded (take k (rows_of file)))) (sym n.numbers) tt;
  }

  pub explained : (e : RecordError) → Reports 0 row e → Explains 1 file (Bad e)
  explained e n = (counted, first_bad e n)

  pub one_taken : Lawful (decoded row) → Taken 1 file
  one_taken l = record { counted = counted; lawful = rw one_row (l, tt) }
