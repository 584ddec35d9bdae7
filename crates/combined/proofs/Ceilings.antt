-- A ceiling over a rack.
use Rattle.std.specs.Prelude.{◌≡◌, ℕ, ◌*◌, ◌≤◌, min, Bool, true, false, cond, not, ◌&&◌, ◌||◌, List, Some, None, Ok, Err, Option, Result, ◌≢◌, is_nan, nat_le, nat_lt, refl, Float}
use Rattle.std.proofs.Common.{inl, inr, sym, ap, ◌∙◌, arith}
use Rattle.std.specs.Float.Ieee.{lt}
use Rattle.std.specs.Float.{float_is_finite}
use Rattle.std.specs.Option.{option_map}
use Rattle.std.specs.Result.{result_err}
use Rattle.std.proofs.lemmas.List.{map-set, length-map}
use Rattle.std.proofs.lemmas.Option.{slice_get-map}
use Rattle.std.proofs.lemmas.Bool.{cases_lt, lt-ltb, le-ltb}
use Rattle.setpoint.specs.Load.{load_of}
use Rattle.setpoint.specs.Refusals.{admitted_under}
use Rattle.setpoint.specs.Value.{value_of, nought}
use Rattle.setpoint.specs.declared.SetpointRefusal.{SetpointRefusal}
use Rattle.setpoint.specs.declared.SetpointRefusal.TheVariants.{NotANumber, AboveCeiling, BelowZero}
use Rattle.record.specs.declared.Fields.{Fields}
use Rattle.record.specs.declared.Record.{Record}
use Rattle.combined.specs.Ceilings.{lowered_fields, lowered, lowered_all, answer_under, turned_away}
use Rattle.rack.specs.Changes.{refused_by, unless, put, written, answer_of}
use Rattle.rack.specs.Edits.{Edit, polling_address, preambles, assembly_number, changed, key, sample, text, setpoint}
use Rattle.rack.specs.Meaning.{told, record_at, channel_of, answered, asked, written_at, records_after, answer_at}

-- an answer with its value changed
abbrev on_ok : {X Y : Type 0} → (X → Y) → Result X ℕ → Result Y ℕ
on_ok f (Ok x) = Ok (f x)
on_ok f (Err n) = Err n

mapped_cond : (b : Bool) (p : ℕ) (o : Option Record) → cond b (option_map (lowered p) o) None ≡ option_map (lowered p) (cond b o None)
mapped_cond true p o = refl
mapped_cond false p o = refl

channel_lowered : (p : ℕ) (records : List Record) (c : ℕ) → channel_of (lowered_all p records) c ≡ option_map (lowered p) (channel_of records c)
channel_lowered p records c = rw (length-map records (lowered p), slice_get-map (lowered p) records c) (mapped_cond (nat_lt c (told records) && nat_le c 14) p (record_at records c))

answered_mapped : {X : Type 0} (question : Record → Result X ℕ) (p : ℕ) (o : Option Record) → answered question (option_map (lowered p) o) ≡ answered (λ r. question (lowered p r)) o
answered_mapped question p (Some r) = refl
answered_mapped question p None = refl

-- a question, asked of the rack below
asked_below : {X : Type 0} (question : Record → Result X ℕ) (p : ℕ) (records : List Record) (c : ℕ) → answered (λ r. question (lowered p r)) (channel_of records c) ≡ answered question (channel_of (lowered_all p records) c)
asked_below question p records c = sym (ap (answered question) (channel_lowered p records c) ∙ answered_mapped question p (channel_of records c))

-- a write that the same fields refuse makes the lowered record of what it makes
on_unless : (o : Option ℕ) (p : ℕ) (r : Record) → unless o (lowered p r) ≡ on_ok (lowered p) (unless o r)
on_unless None p r = refl
on_unless (Some n) p r = refl

-- every write but a setpoint's passes under a ceiling as it is
passes : (edit : Edit) (p : ℕ) (r : Record) → ((x : ℕ) → edit ≢ setpoint x) → written edit (lowered p r) ≡ on_ok (lowered p) (written edit r)
passes (polling_address a) p r h = on_unless _ p (put (polling_address a) r)
passes (preambles n) p r h = on_unless _ p (put (preambles n) r)
passes (assembly_number n) p r h = on_unless _ p (put (assembly_number n) r)
passes (changed on) p r h = refl
passes (key on) p r h = refl
passes (sample reading) p r h = on_unless _ p (put (sample reading) r)
passes (text place bytes) p r h = on_unless _ p (put (text place bytes) r)
passes (setpoint x) p r h = absurd (h x refl)

-- ---- what a ceiling answers by itself

answer_unless : (o : Option ℕ) (r : Record) → answer_of (unless o r) ≡ unless o tt
answer_unless None r = refl
answer_unless (Some n) r = refl

answer_each : (edit : Edit) (p : ℕ) (o : Option Record) → answer_of (answered (λ r. written edit (lowered p r)) o) ≡ answered (λ r. unless (refused_by edit (lowered_fields p r.fields)) tt) o
answer_each edit p (Some r) = answer_unless (refused_by edit (lowered_fields p r.fields)) (put edit (lowered p r))
answer_each edit p None = refl

pub under_is : (p : ℕ) (records : List Record) (c : ℕ) (edit : Edit) → answer_at (lowered_all p records) c edit ≡ answer_under p records c edit
under_is p records c edit = ap answer_of (sym (asked_below (written edit) p records c)) ∙ answer_each edit p (channel_of records c)

none_turned : (edit : Edit) (p : ℕ) (records : List Record) (c : ℕ) → ((x : ℕ) → edit ≢ setpoint x) → turned_away p records c edit ≡ None
none_turned (polling_address a) p records c h = refl
none_turned (preambles n) p records c h = refl
none_turned (assembly_number n) p records c h = refl
none_turned (changed on) p records c h = refl
none_turned (key on) p records c h = refl
none_turned (sample reading) p records c h = refl
none_turned (text place bytes) p records c h = refl
none_turned (setpoint x) p records c h = absurd (h x refl)

-- what a smaller ceiling admits, a larger one does
admits_by : (n l f : Bool) (a b load value : ℕ) → a ≤ b → ◌≡◌ {A = Result ℕ SetpointRefusal} (Ok load) (cond n (Err NotANumber) (cond l (Err BelowZero) (cond (not f || nat_lt a value) (Err AboveCeiling) (Ok value)))) → cond n (Err NotANumber) (cond l (Err BelowZero) (cond (not f || nat_lt b value) (Err AboveCeiling) (Ok value))) ≡ Ok load
admits_by true l f a b load value h e = cc
admits_by false true f a b load value h e = cc
admits_by false false false a b load value h e = cc
admits_by false false true a b load value h e = elim (cases_lt a value) [
  | inl k ↦ let q = rw (lt-ltb a value k) at e in cc
  | inr k ↦ rw (le-ltb b value (omega arith)) (sym (rw (le-ltb a value k) at e))
]

admits : (v : Float) (a b load : ℕ) → a ≤ b → Ok load ≡ admitted_under a v → admitted_under b v ≡ Ok load
admits v a b load h e = admits_by (is_nan v) (lt v nought) (float_is_finite v) (a * 1024) (b * 1024) load (load_of v) (omega arith) e

-- a setpoint that is admitted under the smaller ceiling
setpoint_passes : (x p load : ℕ) (r : Record) → Ok load ≡ admitted_under (min p r.fields.ceiling) (value_of x) → written (setpoint x) (lowered p r) ≡ on_ok (lowered p) (written (setpoint x) r)
setpoint_passes x p load r e = rw (sym e, admits (value_of x) (min p r.fields.ceiling) r.fields.ceiling load (omega arith) e) refl

answered_on : (edit : Edit) (p : ℕ) (o : Option Record) → ((r : Record) → o ≡ Some r → written edit (lowered p r) ≡ on_ok (lowered p) (written edit r)) → answered (written edit) (option_map (lowered p) o) ≡ on_ok (lowered p) (answered (written edit) o)
answered_on edit p (Some r) h = h r refl
answered_on edit p None h = refl

answer_on : (p : ℕ) (w : Result Record ℕ) → answer_of w ≡ answer_of (on_ok (lowered p) w)
answer_on p (Ok r) = refl
answer_on p (Err n) = refl

after_on : (p : ℕ) (w : Result Record ℕ) (records : List Record) (c : ℕ) → lowered_all p (records_after w records c) ≡ records_after (on_ok (lowered p) w) (lowered_all p records) c
after_on p (Ok r) records c = map-set (lowered p) records c r
after_on p (Err n) records c = refl

-- what a write that passes does to the records under a ceiling
pub record Passed (p : ℕ) (records : List Record) (c : ℕ) (edit : Edit) : Type 0 where
  pub answer : answer_of (written_at records c edit) ≡ answer_of (written_at (lowered_all p records) c edit)
  pub after : lowered_all p (records_after (written_at records c edit) records c) ≡ records_after (written_at (lowered_all p records) c edit) (lowered_all p records) c
  pub through : turned_away p records c edit ≡ None

passed : (p : ℕ) (records : List Record) (c : ℕ) (edit : Edit) → turned_away p records c edit ≡ None → ((r : Record) → channel_of records c ≡ Some r → written edit (lowered p r) ≡ on_ok (lowered p) (written edit r)) → Passed p records c edit
passed p records c edit t h =
    let w : written_at (lowered_all p records) c edit ≡ on_ok (lowered p) (written_at records c edit) = ap (answered (written edit)) (channel_lowered p records c) ∙ answered_on edit p (channel_of records c) h in
    record {
      answer = answer_on p (written_at records c edit) ∙ ap answer_of (sym w);
      after = after_on p (written_at records c edit) records c ∙ ap (λ x. records_after x (lowered_all p records) c) (sym w);
      through = t;
    }

pub passed_plain : (p : ℕ) (records : List Record) (c : ℕ) (edit : Edit) → ((x : ℕ) → edit ≢ setpoint x) → Passed p records c edit
passed_plain p records c edit h = passed p records c edit (none_turned edit p records c h) (λ r _. passes edit p r h)

-- the fields that a channel was asked for are those of its record
asked_some : (o : Option Record) (p : ℕ) (f : Fields) → Ok f ≡ answered (λ r. Ok (lowered_fields p r.fields)) o → (r : Record) → o ≡ Some r → f ≡ lowered_fields p r.fields
asked_some (Some x) p f e r q = let same : x ≡ r = cc in let k : f ≡ lowered_fields p x.fields = cc in k ∙ ap (λ (y : Record). lowered_fields p y.fields) same
asked_some None p f e r q = cc

-- and a setpoint that they admit is accepted
accepted_under : (o : Option Record) (p x load : ℕ) (f : Fields) → Ok f ≡ answered (λ r. Ok (lowered_fields p r.fields)) o → Ok load ≡ admitted_under f.ceiling (value_of x)
    → ◌≡◌ {A = Result (Unit {0}) ℕ} (answered (λ r. unless (refused_by (setpoint x) (lowered_fields p r.fields)) tt) o) (Ok tt)
accepted_under (Some r) p x load f e a =
    let k : f ≡ lowered_fields p r.fields = asked_some (Some r) p f e r refl in
    let b : Ok load ≡ admitted_under (min p r.fields.ceiling) (value_of x) = a ∙ ap (λ (y : Fields). admitted_under y.ceiling (value_of x)) k in
    rw (sym b) refl
accepted_under None p x load f e a = cc

module _ (p : ℕ) (records : List Record) (c : ℕ) (f : Fields) (found : Ok f ≡ asked (λ r. lowered_fields p r.fields) records c) where
  pub passed_setpoint : (x load : ℕ) → Ok load ≡ admitted_under f.ceiling (value_of x) → Passed p records c (setpoint x)
  passed_setpoint x load e =
      let t : turned_away p records c (setpoint x) ≡ None = ap result_err (accepted_under (channel_of records c) p x load f found e) in
      passed p records c (setpoint x) t (λ r q.
      setpoint_passes x p load r (e ∙ ap (λ (y : Fields). admitted_under y.ceiling (value_of x)) (asked_some (channel_of records c) p f found r q)))
