-- The record of a channel from the answers of its rack.
use Rattle.std.proofs.Common.{◌≡◌, ℕ, List, take, Some, None, Ok, Err, Option, Result, refl, ◌∙◌, arith}
use Rattle.std.specs.List.{AllByRecursion}
use Rattle.std.specs.Result.{result_ok}
use Rattle.std.proofs.lemmas.List.{take_all}
use Rattle.record.specs.Lawful.{Lawful}
use Rattle.record.specs.declared.Fields.{Fields}
use Rattle.record.specs.declared.Record.{Record}
use Rattle.record.specs.declared.readings.Reading.{Reading}
use Rattle.rack.specs.Refusals.{numbered}
use Rattle.rack.specs.declared.refusal.RackRefusal.{RackRefusal}
use Rattle.rack.specs.Meaning.{channel_of, answered}
use Rattle.rack.proofs.Meaning.{channel_lawful}

-- what a rack told, where it did not refuse
pub told_ok : {X : Type 0} (a : Result X RackRefusal) (x : X) (w : Result X ℕ) → numbered a ≡ w → result_ok a ≡ Some x → Ok x ≡ w
told_ok (Ok y) x w e k = cc
told_ok (Err y) x w e k = cc

record_from : (o : Option Record) (fields : Fields) (reading : Reading) (text : List ℕ) → Ok fields ≡ answered (λ r. Ok r.fields) o → Ok reading ≡ answered (λ r. Ok r.reading) o
    → ((r : Record) → o ≡ Some r → text ≡ r.text) → Some (record { fields = fields; reading = reading; text = text }) ≡ o
record_from (Some r) fields reading text f e t =
    let a : fields ≡ r.fields = cc in
    let b : reading ≡ r.reading = cc in
    let c = t r refl in
    rw (a, b, c) refl
record_from None fields reading text f e t = let z : ◌≡◌ {A = ℕ} 0 1 = cc in absurd (omega arith)

pub record_is : (records : List Record) (channel : ℕ) → AllByRecursion Lawful records → (fields : Fields) (reading : Reading) (text : List ℕ)
    → Ok fields ≡ answered (λ r. Ok r.fields) (channel_of records channel) → Ok reading ≡ answered (λ r. Ok r.reading) (channel_of records channel)
    → ((r : Record) → channel_of records channel ≡ Some r → text ≡ take 45 r.text) → Some (record { fields = fields; reading = reading; text = text }) ≡ channel_of records channel
record_is records channel lawful fields reading text f e t =
    record_from (channel_of records channel) fields reading text f e (λ r is. t r is ∙ take_all 45 r.text (let l = (channel_lawful records channel r lawful is).text in omega arith))
