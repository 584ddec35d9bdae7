-- A file worked through row by row.
use Rattle.std.proofs.Common.{◌≡◌, ℕ, suc, ◌+◌, ◌<◌, List, [], length, take, drop, get_or, Some, None, Option, sym, refl, ap, ◌∙◌, add-one}
use Rattle.std.specs.List.{AllByRecursion}
use Rattle.std.proofs.ByRecursion.{All-push}
use Rattle.std.proofs.lemmas.List.{at_drop_more, take_more, map_push}
use Rattle.record.specs.Faults.{fault_of}
use Rattle.record.specs.Lawful.{Lawful}
use Rattle.record.specs.Layout.{decoded}
use Rattle.record.specs.declared.faults.RecordFault.{RecordFault}
use Rattle.rack.specs.declared.files.RecordError.{RecordError}
use Rattle.rack.specs.Files.{fault_in, first_bad}
use Rattle.shelf.specs.Rows.{Faultless, records_in}

none_of : (number : ℕ) (f : Option RecordFault) → None ≡ fault_in number f None → (rest : Option RecordError) → fault_in number f rest ≡ rest
none_of number (Some x) e rest = cc
none_of number None e rest = refl

some_of : (number : ℕ) (f : Option RecordFault) (x : RecordError) → Some x ≡ fault_in number f None → (rest : Option RecordError) → fault_in number f rest ≡ Some x
some_of number (Some y) x e rest = sym e
some_of number None x e rest = cc

-- rows without a fault before row i: one more, or the first fault
module _ (rows : List (List ℕ)) (i : ℕ) (h : i < length rows) (inv : first_bad i (drop i rows) ≡ first_bad 0 rows) where
  abbrev rest : Option RecordError
  rest = first_bad (suc i) (drop (i + 1) rows)

  pub none_more : None ≡ fault_in i (fault_of (get_or rows i [])) None → first_bad (i + 1) (drop (i + 1) rows) ≡ first_bad 0 rows
  none_more e = ap (λ n. first_bad n (drop (i + 1) rows)) (add-one i) ∙ (sym (none_of i (fault_of (get_or rows i [])) e rest) ∙ (sym (at_drop_more (first_bad i) rows i [] h) ∙ inv))

  pub found : (x : RecordError) → Some x ≡ fault_in i (fault_of (get_or rows i [])) None → first_bad 0 rows ≡ Some x
  found x e = sym inv ∙ (at_drop_more (first_bad i) rows i [] h ∙ some_of i (fault_of (get_or rows i [])) x e rest)

-- a row of which no fault is told has none
pub none_told : (number : ℕ) (f : Option RecordFault) → None ≡ fault_in number f None → f ≡ None
none_told number (Some x) e = cc
none_told number None e = refl

pub faultless_more : (rows : List (List ℕ)) (i : ℕ) → i < length rows → AllByRecursion Faultless (take i rows) → Faultless (get_or rows i []) → AllByRecursion Faultless (take (i + 1) rows)
faultless_more rows i h inv p = rw (take_more rows i [] h) (All-push Faultless (take i rows) (get_or rows i []) inv p)

-- one lawful record more
pub lawful_more : (rows : List (List ℕ)) (i : ℕ) → i < length rows → AllByRecursion Lawful (records_in (take i rows)) → Lawful (decoded (get_or rows i [])) → AllByRecursion Lawful (records_in (take (i + 1) rows))
lawful_more rows i h inv p = rw (take_more rows i [] h, map_push decoded (take i rows) (get_or rows i [])) (All-push Lawful (records_in (take i rows)) (decoded (get_or rows i [])) inv p)
