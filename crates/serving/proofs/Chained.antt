-- Chains of writes put together.
use Rattle.std.proofs.Common.{◌≡◌, ℕ, List, [], ◌∷◌, ◌++◌, set, Bool, true, not, is_some, Some, None, Ok, Err, Option, Result, sym, refl, ap, ◌∙◌, subst}
use Rattle.std.specs.Option.{option_map, option_to_list}
use Rattle.std.specs.Result.{result_unwrap_or}
use Rattle.record.specs.declared.Fields.{Fields}
use Rattle.record.specs.declared.Record.{Record}
use Rattle.rack.specs.Changes.{put}
use Rattle.rack.specs.Meaning.{channel_of, answer_at, after_at, asked, answered}
use Rattle.rack.specs.Edits.{Edit, edit_of}
use Rattle.rack.specs.Writes.{WriteRelation, Writes}
use Rattle.line.specs.Edits.{Admitted, after_edits}
use Rattle.line.specs.Judgements.{edits}
use Rattle.line.specs.Views.{judged}
use Rattle.line.specs.declared.accepted.AcceptedCommand.{AcceptedCommand}
use Rattle.line.specs.declared.judgements.Judgement.{Judgement as JudgementOfCode}
use Rattle.line.specs.declared.judgements.Judgement.TheVariants.{CommunicationError, Refused, Accepted}
use Rattle.rack.specs.Refusals.{numbered}
use Rattle.rack.specs.declared.changes.Change.{Change}
use Rattle.rack.specs.declared.refusal.RackRefusal.{RackRefusal}
use Rattle.serving.specs.Writing.{Written, WritesAll, CarriesOut}
use Rattle.serving.proofs.Writes.{taken, written_after, set_record, record_of_channel, changed_twice, channel_set}

admitted_both : (es fs : List Edit) (r : Record) → Admitted (es ++ fs) r → Admitted es r × Admitted fs (after_edits es r)
admitted_both [] fs r t = (tt, t)
admitted_both (e ∷ es) fs r t = let m = admitted_both es fs (put e r) t.1 in ((t.0, m.0), m.1)

after_both : (es fs : List Edit) (r : Record) → after_edits (es ++ fs) r ≡ after_edits fs (after_edits es r)
after_both [] fs r = refl
after_both (e ∷ es) fs r = after_both es fs (put e r)

-- changes of which there are none
pub no_edits : (o p : Option Change) (b d : Bool) → is_some o ≡ not b → b ≡ true → is_some p ≡ not d → d ≡ true → option_to_list (option_map edit_of o) ++ option_to_list (option_map edit_of p) ≡ []
no_edits None None b d e t f u = refl
no_edits (Some c) p b d e t f u = let h = rw t at e in cc
no_edits None (Some c) b d e t f u = let h = rw u at f in cc

-- a judgement that accepts nothing
pub no_writes : (j : JudgementOfCode) → ((command : AcceptedCommand) → j ≡ Accepted command → ⊥) → edits (judged j) ≡ []
no_writes (CommunicationError status) h = refl
no_writes (Refused code) h = refl
no_writes (Accepted command) h = absurd (h command refl)

-- the fields that a rack tells
told_fields : (a : Result Fields RackRefusal) (fields : Fields) (r : Record) (o : Option Record) → numbered a ≡ answered (λ c. Ok c.fields) o → o ≡ Some r → result_unwrap_or a fields ≡ r.fields
told_fields (Ok f) fields r o e is = let h = rw is at e in cc
told_fields (Err x) fields r o e is = let h = rw is at e in cc

module _ {X : Type 0} (records : X → List Record) (wrote : WriteRelation X) (k : ℕ) where
  writes_both : (es fs : List Edit) (x y z : X) → Writes wrote k es x y → Writes wrote k fs y z → Writes wrote k (es ++ fs) x z
  writes_both [] fs x y z e w = subst (λ (p : X). Writes wrote k fs p z) e w
  writes_both (e ∷ es) fs x y z v w = (v.0, (v.1.0, writes_both es fs v.0 y z v.1.1 w))

  pub all_both : (es fs : List Edit) (x y z : X) → WritesAll records wrote k es x y → WritesAll records wrote k fs y z → WritesAll records wrote k (es ++ fs) x z
  all_both es fs x y z v w = λ r is t.
      let both = admitted_both es fs r t in
      let q = after_edits es r in
      let p = v r is both.0 in
      let held : channel_of (records y) k ≡ Some q = ap (λ (l : List Record). channel_of l k) p.leaves ∙ channel_set (records x) k r q is in
      let n = w q held both.1 in
      record {
        writes = writes_both es fs x y z p.writes n.writes;
        leaves = changed_twice (records x) (records y) (records z) k r q (after_edits fs q) is p.leaves (λ h. n.leaves)
            ∙ ap (λ (s : Record). set (records x) k s) (sym (after_both es fs r));
      }

  -- no write leaves all as it was
  pub all_none : (x : X) → WritesAll records wrote k [] x x
  all_none x = λ r is t. record { writes = refl; leaves = sym (set_record (records x) k r (record_of_channel (records x) k r is)) }

  -- one write
  pub all_one : (e : Edit) (x y : X) (a : Result (Unit {0}) ℕ) → a ≡ answer_at (records x) k e
      → records y ≡ after_at (records x) k e → wrote x y k e a → WritesAll records wrote k (e ∷ []) x y
  all_one e x y a answers after w = λ r is t.
      let ok : a ≡ Ok tt = answers ∙ rw is (taken e r t.0) in
      record {
        writes = (y, (subst (wrote x y k e) ok w, refl));
        leaves = after ∙ written_after (records x) k r e is t.0;
      }

  -- the record that a channel has after writes
  pub held_after : (es : List Edit) (x y : X) (r : Record) → channel_of (records x) k ≡ Some r → Written records wrote k es r x y → channel_of (records y) k ≡ Some (after_edits es r)
  held_after es x y r is w = ap (λ (l : List Record). channel_of l k) w.leaves ∙ channel_set (records x) k r (after_edits es r) is

  pub carried_none : (fields : Fields) (es : List Edit) (x : X) → es ≡ [] → CarriesOut records wrote k fields es x x fields
  carried_none fields es x e = λ r is f t. record {
    written = subst (λ (l : List Edit). Written records wrote k l r x x) (sym e) (all_none x r is tt);
    fields_are = f ∙ ap (λ (l : List Edit). (after_edits l r).fields) (sym e);
  }

  pub carried_on : (fields : Fields) (es : List Edit) (x y : X) (a : Result Fields RackRefusal) (fields' : Fields) → WritesAll records wrote k es x y
      → numbered a ≡ asked (λ c. c.fields) (records y) k → fields' ≡ result_unwrap_or a fields → CarriesOut records wrote k fields es x y fields'
  carried_on fields es x y a fields' all told is = λ r held f t.
      let w = all r held t in
      record {
        written = w;
        fields_are = is ∙ told_fields a fields (after_edits es r) (channel_of (records y) k) told (held_after es x y r held w);
      }
