-- Writes to the record of a channel, by the list of records.
use Rattle.std.proofs.Common.{◌≡◌, ℕ, zero, suc, ◌+◌, ◌-◌, ◌≤◌, Bool, true, false, cond, ◌&&◌, ltb, leb, List, [], ◌∷◌, length, set, Some, None, Ok, Err, Option, Result, sym, refl, ap, ◌∙◌, inl, inr, arith, length-set}
use Rattle.std.specs.Result.{MatchResult}
use Rattle.std.proofs.lemmas.Bool.{and_from, lt-ltb, le-leb, cases_lt}
use Rattle.std.proofs.lemmas.List.{set-set}
use Rattle.refusals.specs.Refusals.{numbered}
use Rattle.refusals.specs.declared.Refusal.{Refusal}
use Rattle.header.specs.Shares.{option_share, share_at, total_share, rack_share}
use Rattle.rack.specs.Changes.{answer_of, written, refused_by, put}
use Rattle.rack.specs.Edits.{Edit}
use Rattle.rack.specs.Meaning.{told, record_at, channel_of, after_at}
use Rattle.record.specs.declared.Record.{Record}
use Rattle.runs.specs.Channel.{flow_channel}
use Rattle.runs.specs.Places.{At, here, there}
use Rattle.runs.specs.Shares.{others}
use Rattle.runs.proofs.Places.{at_set, set_same}
use Rattle.runs.proofs.SetUps.{total_shares}

pub from_cond : {X : Type 0} (b : Bool) (o : Option X) (x : X) → cond b o None ≡ Some x → (b ≡ true) × (o ≡ Some x)
from_cond true o x e = (refl, e)
from_cond false o x e = cc

pub record_there : {records : List Record} {k : ℕ} {r : Record} → At records k r → record_at records k ≡ Some r
record_there here = refl
record_there (there a) = record_there a

pub at_record : (records : List Record) (k : ℕ) (r : Record) → record_at records k ≡ Some r → At records k r
at_record [] k r e = cc
at_record (x ∷ records) zero r e = let p : x ≡ r = cc in rw p here
at_record (x ∷ records) (suc k) r e = there (at_record records k r e)

pub record_of_channel : (records : List Record) (k : ℕ) (r : Record) → channel_of records k ≡ Some r → record_at records k ≡ Some r
record_of_channel records k r e = (from_cond (ltb k (told records) && leb k 14) (record_at records k) r e).1

pub set_record : (records : List Record) (k : ℕ) (r : Record) → record_at records k ≡ Some r → set records k r ≡ records
set_record records k r e = set_same (at_record records k r e)

pub channel_set : (records : List Record) (k : ℕ) (r s : Record) → channel_of records k ≡ Some r → channel_of (set records k s) k ≡ Some s
channel_set records k r s e =
    let p = from_cond (ltb k (told records) && leb k 14) (record_at records k) r e in
    let t : (ltb k (told (set records k s)) && leb k 14) ≡ true = rw (length-set records k s) p.0 in
    rw t (record_there (at_set s (at_record records k r p.1)))

-- a write that the record takes: its answer, and the records after it
pub taken : (e : Edit) (r : Record) → refused_by e r.fields ≡ None → answer_of (written e r) ≡ Ok tt
taken e r n = rw n refl

pub written_after : (records : List Record) (k : ℕ) (r : Record) (e : Edit) → channel_of records k ≡ Some r → refused_by e r.fields ≡ None → after_at records k e ≡ set records k (put e r)
written_after records k r e is n = rw (is, n) refl

-- two changes, one after another
pub changed_twice : (records mid after : List Record) (k : ℕ) (r q s : Record) → channel_of records k ≡ Some r → mid ≡ set records k q → (channel_of mid k ≡ Some q → after ≡ set mid k s) → after ≡ set records k s
changed_twice records mid after k r q s e m f =
    f (ap (λ (l : List Record). channel_of l k) m ∙ channel_set records k r q e) ∙ (ap (λ (l : List Record). set l k s) m ∙ set-set records k q s)

-- the sum of the shares is the others' and the channel's own
others_share : (records : List Record) (k : ℕ) → total_share records ≡ others flow_channel records k + option_share (record_at records k)
others_share [] k = refl
others_share (r ∷ records) zero = let h = total_shares records in omega arith
others_share (r ∷ records) (suc k) = let h = others_share records k in omega arith

no_record : (records : List Record) (k : ℕ) → length records ≤ k → record_at records k ≡ None
no_record [] k l = refl
no_record (r ∷ records) zero l = absurd (omega arith)
no_record (r ∷ records) (suc k) l = no_record records k (omega arith)

pub channel_record : (records : List Record) (k : ℕ) → length records ≤ 15 → channel_of records k ≡ record_at records k
channel_record records k few = elim (cases_lt k (length records)) [
  | inl l ↦ rw (and_from (ltb k (told records)) (leb k 14) (lt-ltb k (told records) (omega arith)) (le-leb k 14 (omega arith))) refl
  | inr l ↦ either (ltb k (told records) && leb k 14) (no_record records k l)
]
  where
    either : (b : Bool) {o : Option Record} → o ≡ None → cond b o None ≡ o
    either true e = refl
    either false e = sym e

others_rest : (records : List Record) (k n : ℕ) → length records ≤ 15 → n ≡ share_at records k → total_share records ≡ others flow_channel records k + n
others_rest records k n few e = others_share records k ∙ ap (λ m. others flow_channel records k + m) (ap option_share (sym (channel_record records k few)) ∙ sym e)

pub others_value : (records : List Record) (k n : ℕ) (a : Result ℕ Refusal) → length records ≤ 15 → numbered a ≡ rack_share records → MatchResult a (λ sum. n ≡ sum - share_at records k) (λ _. n ≡ 0)
    → n ≡ others flow_channel records k
others_value records k n (Ok sum) few e s =
    let t : sum ≡ total_share records = (let h = rw (le-leb (length records) 15 few) at e in cc) in
    let o = others_rest records k (share_at records k) few refl in
    omega arith
others_value records k n (Err x) few e s = let h = rw (le-leb (length records) 15 few) at e in cc
