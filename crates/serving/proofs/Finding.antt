-- The channel that is found, from what the calls say.
use Rattle.std.proofs.Common.{◌≡◌, ℕ, List, Some, None, Ok, Err, Option, Result, refl, sym, ap, ◌∙◌}
use Rattle.std.specs.Option.{option_map}
use Rattle.std.specs.Result.{result_ok}
use Rattle.frame.specs.Frames.{Parts}
use Rattle.rack.specs.Meaning.{channel_of, answered}
use Rattle.rack.specs.Refusals.{numbered}
use Rattle.rack.specs.declared.refusal.RackRefusal.{RackRefusal}
use Rattle.record.specs.declared.Fields.{Fields}
use Rattle.record.specs.declared.Record.{Record}
use Rattle.line.specs.Characters.{Reception}
use Rattle.line.specs.Judgements.{Judgement, judgement, Writable}
use Rattle.line.specs.Whole.{frame_of}
use Rattle.serving.specs.Answering.{Finds}
use Rattle.serving.specs.Meant.{sole_meant}
use Rattle.serving.specs.Serving.{allotment_of, answering_by}

-- the fields that a rack tells are those of a record that there is
pub fields_there : (a : Result Fields RackRefusal) (fields : Fields) (o : Option Record) → numbered a ≡ answered (λ r. Ok r.fields) o → result_ok a ≡ Some fields
    → option_map (λ r. r.fields) o ≡ Some fields
fields_there (Ok f) fields (Some r) e k = cc
fields_there (Ok f) fields None e k = cc
fields_there (Err n) fields o e k = cc

same_answering : (o : Option Record) (f : Parts) (channel : ℕ) (fields : Fields) (j : Judgement) (by : Fields → Judgement) → option_map (λ r. r.fields) o ≡ Some fields → j ≡ by fields
    → option_map (λ r. answering_by f channel r j) o ≡ option_map (λ r. answering_by f channel r (by r.fields)) o
same_answering (Some r) f channel fields j by e k =
    let p : r.fields ≡ fields = cc in
    ap (λ (i : Judgement). Some (answering_by f channel r i)) (k ∙ ap by (sym p))
same_answering None f channel fields j by e k = refl

pub finds : {supply : Option ℕ} {s : ℕ} {records : List Record} {received : Option Reception} {x : Reception} {f : Parts} {channel : ℕ} {fields : Fields} {j : Judgement}
    → supply ≡ Some s → received ≡ Some x → frame_of x ≡ Some f → sole_meant f records ≡ Some channel → option_map (λ r. r.fields) (channel_of records channel) ≡ Some fields
    → j ≡ judgement x f fields (allotment_of s records channel) → Writable j fields
    → Finds supply records received (Some (record { channel = channel; fields = fields; frame = f; judgement = j }))
finds {s = s} {records} {x = x} {f} {channel} {fields} {j} a b framed sole there judged writable =
    rw (a, b, framed, sole) (
      record { there = there; writable = writable },
      refl,
      same_answering (channel_of records channel) f channel fields j (λ g. judgement x f g (allotment_of s records channel)) there judged,
    )
