-- A write that is accepted puts its value into its field, and nothing else anywhere.
use Rattle.std.proofs.Common.{◌≡◌, ℕ, zero, suc, ◌+◌, ◌≤◌, Bool, true, false, cond, ltb, leb, List, [], ◌∷◌, length, set, Some, None, Ok, Err, Option, Result, sym, refl, ap, ◌∙◌, subst, inl, inr, arith, length-set}
use Rattle.std.specs.List.{AllByRecursion, slice_get}
use Rattle.std.specs.Result.{OnOk}
use Rattle.std.proofs.lemmas.Bool.{cases_lt, lt-leb, and_right, and_parts, leb-true, cond-false}
use Rattle.std.proofs.lemmas.Option.{none-some}
use Rattle.record.specs.declared.Record.{Record}
use Rattle.record.specs.Lawful.{Lawful}
use Rattle.rack.specs.Changes.{answer_of, put, record_after, refused_by, text_run?, unless, written}
use Rattle.rack.specs.Edits.{Edit, polling_address, preambles, assembly_number, changed, key, sample, text, setpoint}
use Rattle.rack.specs.Meaning.{told, channel_of, answered, records_after, answer_at, after_at}
use Rattle.rack.specs.Puts.{Puts, PutsAt}
use Rattle.rack.specs.Refusals.{numbered}
use Rattle.rack.specs.declared.refusal.RackRefusal.{RackRefusal}
use Rattle.rack.proofs.Channels.{channel_plain}
use Rattle.rack.proofs.Meaning.{channel_lawful}
use Rattle.rack.proofs.Texts.{run_stands, length_placed, outside_kept}

refused_run : (b : Bool) (n : ℕ) → cond b None (Some n) ≡ None → b ≡ true
refused_run true n e = refl
refused_run false n e = absurd (none-some n (sym e))

run_room : (place : ℕ) (bytes : List ℕ) → text_run? place bytes ≡ true → place + length bytes ≤ 45
run_room place bytes e = leb-true (place + length bytes) 45 (and_parts (leb (length bytes) 24) (leb (place + length bytes) 45) e).1

pub puts_put : (edit : Edit) (r : Record) → length r.text ≡ 45 → refused_by edit r.fields ≡ None → Puts edit r (put edit r)
puts_put (polling_address a) r l e = record { value = refl; polling_address = λ h. absurd (h refl); preambles = λ _. refl; assembly_number = λ _. refl; changed = λ _. refl; key_open = λ _. refl; setpoint = λ _. refl; reading = λ _. refl; text = λ _ _. refl; text_length = refl; device_type = refl; identification = refl; ceiling = refl; flow_unit = refl; full_scale = refl }
puts_put (preambles n) r l e = record { value = refl; polling_address = λ _. refl; preambles = λ h. absurd (h refl); assembly_number = λ _. refl; changed = λ _. refl; key_open = λ _. refl; setpoint = λ _. refl; reading = λ _. refl; text = λ _ _. refl; text_length = refl; device_type = refl; identification = refl; ceiling = refl; flow_unit = refl; full_scale = refl }
puts_put (assembly_number n) r l e = record { value = refl; polling_address = λ _. refl; preambles = λ _. refl; assembly_number = λ h. absurd (h refl); changed = λ _. refl; key_open = λ _. refl; setpoint = λ _. refl; reading = λ _. refl; text = λ _ _. refl; text_length = refl; device_type = refl; identification = refl; ceiling = refl; flow_unit = refl; full_scale = refl }
puts_put (changed on) r l e = record { value = refl; polling_address = λ _. refl; preambles = λ _. refl; assembly_number = λ _. refl; changed = λ h. absurd (h refl); key_open = λ _. refl; setpoint = λ _. refl; reading = λ _. refl; text = λ _ _. refl; text_length = refl; device_type = refl; identification = refl; ceiling = refl; flow_unit = refl; full_scale = refl }
puts_put (key on) r l e = record { value = refl; polling_address = λ _. refl; preambles = λ _. refl; assembly_number = λ _. refl; changed = λ _. refl; key_open = λ h. absurd (h refl); setpoint = λ _. refl; reading = λ _. refl; text = λ _ _. refl; text_length = refl; device_type = refl; identification = refl; ceiling = refl; flow_unit = refl; full_scale = refl }
puts_put (sample x) r l e = record { value = refl; polling_address = λ _. refl; preambles = λ _. refl; assembly_number = λ _. refl; changed = λ _. refl; key_open = λ _. refl; setpoint = λ _. refl; reading = λ h. absurd (h refl); text = λ _ _. refl; text_length = refl; device_type = refl; identification = refl; ceiling = refl; flow_unit = refl; full_scale = refl }
puts_put (text place bytes) r l e =
    let room : place + length bytes ≤ length r.text = rw l (run_room place bytes (refused_run (text_run? place bytes) 110 e)) in
    record { value = run_stands place bytes r.text room; polling_address = λ _. refl; preambles = λ _. refl; assembly_number = λ _. refl; changed = λ _. refl; key_open = λ _. refl; setpoint = λ _. refl; reading = λ _. refl; text = outside_kept place bytes r.text room; text_length = length_placed place bytes r.text room; device_type = refl; identification = refl; ceiling = refl; flow_unit = refl; full_scale = refl }
puts_put (setpoint p) r l e = record { value = refl; polling_address = λ _. refl; preambles = λ _. refl; assembly_number = λ _. refl; changed = λ _. refl; key_open = λ _. refl; setpoint = λ h. absurd (h refl); reading = λ _. refl; text = λ _ _. refl; text_length = refl; device_type = refl; identification = refl; ceiling = refl; flow_unit = refl; full_scale = refl }

-- ---- one record

puts_unless : (edit : Edit) (r new : Record) (o : Option ℕ) → length r.text ≡ 45 → refused_by edit r.fields ≡ o → Ok tt ≡ answer_of (unless o (put edit r)) → new ≡ record_after (unless o (put edit r)) r → Puts edit r new
puts_unless edit r new None l q a k = subst (Puts edit r) (sym k) (puts_put edit r l q)
puts_unless edit r new (Some n) l q a k = absurd (let z : ◌≡◌ {A = ℕ} 0 1 = cc in omega arith)

pub puts_after : (edit : Edit) (r new : Record) → length r.text ≡ 45 → (answer : Result (Unit {0}) RackRefusal) → numbered answer ≡ answer_of (written edit r) → new ≡ record_after (written edit r) r → OnOk answer (Puts edit r new)
puts_after edit r new l (Ok x) a k = puts_unless edit r new (refused_by edit r.fields) l refl a k
puts_after edit r new l (Err x) a k = tt

-- ---- a list of records

other_kept : (records : List Record) (i j : ℕ) (r : Record) → (j ≡ i → ⊥) → slice_get (set records i r) j ≡ slice_get records j
other_kept [] i j r h = refl
other_kept (x ∷ records) zero zero r h = absurd (h refl)
other_kept (x ∷ records) zero (suc j) r h = refl
other_kept (x ∷ records) (suc i) zero r h = refl
other_kept (x ∷ records) (suc i) (suc j) r h = other_kept records i j r (λ e. h (ap suc e))

same_put : (records : List Record) (i : ℕ) (r x : Record) → slice_get records i ≡ Some x → slice_get (set records i r) i ≡ Some r
same_put [] i r x e = absurd (none-some x e)
same_put (y ∷ records) zero r x e = refl
same_put (y ∷ records) (suc i) r x e = same_put records i r x e

channel_low : (records : List Record) (c : ℕ) (x : Record) → channel_of records c ≡ Some x → c ≤ 14
channel_low records c x e = elim (cases_lt 14 c) [
  | inl l ↦ absurd (none-some x (sym (cond-false _ _ _ (and_right (ltb c (told records)) (leb c 14) (lt-leb c 14 l))) ∙ e))
  | inr l ↦ l
]

module _ (records new : List Record) (c : ℕ) (edit : Edit) (lawful : AllByRecursion Lawful records) where
  at_record : (r : Record) → channel_of records c ≡ Some r → (o : Option ℕ) → refused_by edit r.fields ≡ o
      → Ok tt ≡ answer_of (unless o (put edit r)) → new ≡ records_after (unless o (put edit r)) records c → PutsAt c edit records new
  at_record r e (Some n) q a k = absurd (let z : ◌≡◌ {A = ℕ} 0 1 = cc in omega arith)
  at_record r e None q a k =
      let low = channel_low records c r e in
      let found : slice_get records c ≡ Some r = sym (channel_plain records c low) ∙ e in
      record {
        was = r;
        «is» = put edit r;
        found = e;
        after = channel_plain new c low ∙ rw k (same_put records c (put edit r) r found);
        puts = puts_put edit r (channel_lawful records c r lawful e).text q;
        others = λ other h. rw k (other_kept records c other (put edit r) h);
        count = rw k (length-set records c (put edit r));
      }

  at_channel : (o : Option Record) → channel_of records c ≡ o → Ok tt ≡ answer_of (answered (written edit) o) → new ≡ records_after (answered (written edit) o) records c → PutsAt c edit records new
  at_channel (Some r) e a k = at_record r e (refused_by edit r.fields) refl a k
  at_channel None e a k = absurd (let z : ◌≡◌ {A = ℕ} 0 1 = cc in omega arith)

  pub puts_at : (answer : Result (Unit {0}) RackRefusal) → numbered answer ≡ answer_at records c edit → new ≡ after_at records c edit → OnOk answer (PutsAt c edit records new)
  puts_at (Ok x) a k = at_channel (channel_of records c) refl a k
  puts_at (Err x) a k = tt
