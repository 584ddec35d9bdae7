-- The record at a place, as the run relation and as the rack say it.
use Rattle.std.proofs.Common.{inl, inr, arith, ltb, leb, ◌≡◌, ℕ, ◌<◌, ◌≤◌, true, List, ◌++◌, length, drop, is_some, IfSome, Some, None, Ok, Err, Option, Result, MatchOption, sym, refl, ap, ◌∙◌, subst, true≢false, slice_get}
use Rattle.std.proofs.lemmas.Bool.{lt-leb, lt-ltb, le-ltb, and_right, cond-false, cases_lt}
use Rattle.std.specs.Option.{ok_or}
use Rattle.refusals.specs.Filling.{in_front}
use Rattle.refusals.specs.Refusals.{number_of}
use Rattle.refusals.specs.declared.Refusal.{Refusal}
use Rattle.refusals.specs.declared.Refusal.TheVariants.{NoChannel, ShortBuffer}
use Rattle.record.specs.Layout.{encoded}
use Rattle.rack.specs.Meaning.{told, channel_of}
use Rattle.record.specs.declared.Record.{Record}
use Rattle.rack.proofs.Channels.{channel_plain}
use Rattle.std.proofs.lemmas.Option.{slice_get_past}
use Rattle.panel.specs.Panels.{channels_of, look_record, look_buffer}

pub element_channel : (records : List Record) (k : ℕ) → length records ≤ 15 → slice_get records k ≡ channel_of records k
element_channel records k few = elim (cases_lt k 15) [
  | inl l ↦ sym (channel_plain records k (omega arith))
  | inr l ↦ slice_get_past records k (omega arith) ∙ sym (cond-false _ _ _ (and_right (ltb k (told records)) (leb k 14) (lt-leb k 14 (omega arith))))
]

-- what a look says, by the record that is there
pub record Looked (buffer : List ℕ) (said : Result (Unit {0}) ℕ) (after : List ℕ) (o : Option Record) : Type 0 where
  pub answer : said ≡ look_record buffer o
  pub leaves : after ≡ look_buffer buffer o

pub missing : {buffer : List ℕ} (o : Option Record) (e : Refusal) → Err e ≡ ok_or o NoChannel → Looked buffer (Err (number_of e)) buffer o
missing None e h = record { answer = (let k : e ≡ NoChannel = cc in ap (λ (x : Refusal). Err (number_of x)) k); leaves = refl }
missing (Some r) e h = absurd (cc)

pub short : {buffer : List ℕ} (o : Option Record) (r : Record) → Ok r ≡ ok_or o NoChannel → {X : Type 0} (P : X → Type 0) (front : Option X) (e : Refusal) → MatchOption front (length buffer < 80) P → Err e ≡ ok_or front ShortBuffer
    → Looked buffer (Err (number_of e)) buffer o
short None r h P front e l f = absurd (cc)
short (Some q) r h P (Some x) e l f = absurd (cc)
short {buffer} (Some q) r h P None e l f =
    let b = lt-ltb (length buffer) 80 l in
    record { answer = rw b (let k : e ≡ ShortBuffer = cc in ap (λ (x : Refusal). Err (number_of x)) k); leaves = rw b refl }

pub filled : {buffer bytes : List ℕ} (o : Option Record) (r : Record) → Ok r ≡ ok_or o NoChannel → 80 ≤ length buffer → length bytes ≡ 80 → bytes ≡ encoded r → Looked buffer (Ok tt) (bytes ++ drop 80 buffer) o
filled None r h l n b = absurd (cc)
filled {buffer} {bytes} (Some q) r h l n e =
    let b = le-ltb (length buffer) 80 l in
    let k : r ≡ q = cc in
    record { answer = rw b refl; leaves = rw b (ap (λ (m : ℕ). bytes ++ drop m buffer) (sym n) ∙ ap (λ (x : List ℕ). in_front x buffer) (e ∙ ap encoded k)) }

-- the record that is found at a channel is that of the panel, if it was set up
pub channel_here : (supply : Option ℕ) (records : List Record) (k : ℕ) → IfSome supply (λ _. length records ≤ 15) → is_some supply ≡ true → channel_of records k ≡ slice_get (channels_of supply records) k
channel_here (Some n) records k few e = sym (element_channel records k few)
channel_here None records k few e = absurd (true≢false (sym e))

pub looked : (supply : Option ℕ) (records : List Record) (k : ℕ) → IfSome supply (λ _. length records ≤ 15) → is_some supply ≡ true → (found : Option Record) → found ≡ channel_of records k
    → {buffer : List ℕ} {said : Result (Unit {0}) ℕ} {after : List ℕ} → Looked buffer said after found → Looked buffer said after (slice_get (channels_of supply records) k)
looked supply records k few up found told {buffer} {said} {after} = subst (Looked buffer said after) (told ∙ channel_here supply records k few up)
