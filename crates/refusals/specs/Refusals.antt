-- The number and the words of each refusal.
use Rattle.std.specs.Prelude.{ℕ, List, Ok, Err, codes, Result}
use Rattle.refusals.specs.declared.Refusal.{Refusal}
use Rattle.refusals.specs.declared.Refusal.TheVariants.{NoChannel, ShortBuffer, BadRecord, NumberOfRecords, SameIdentity, OverSupply, Supply, Reading, Marks, OutOfForm}

abbrev pub number_of : Refusal → ℕ
number_of NoChannel = 101
number_of ShortBuffer = 102
number_of BadRecord = 103
number_of NumberOfRecords = 104
number_of SameIdentity = 105
number_of OverSupply = 106
number_of Supply = 107
number_of Reading = 108
number_of Marks = 109
number_of OutOfForm = 110

abbrev pub words_of : Refusal → List ℕ
words_of NoChannel = codes "no channel"
words_of ShortBuffer = codes "short buffer"
words_of BadRecord = codes "bad record"
words_of NumberOfRecords = codes "number of records"
words_of SameIdentity = codes "same identity"
words_of OverSupply = codes "over supply"
words_of Supply = codes "supply"
words_of Reading = codes "reading"
words_of Marks = codes "marks"
words_of OutOfForm = codes "out of form"

-- an answer with the refusal's number in the place of the refusal
abbrev pub numbered : {X : Type 0} → Result X Refusal → Result X ℕ
numbered (Ok x) = Ok x
numbered (Err e) = Err (number_of e)
