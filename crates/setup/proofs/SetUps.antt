-- No two channels have the same identity exactly where the channels are distinct.
use Rattle.std.proofs.Common.{◌≡◌, ℕ, suc, true, false, List, [], ◌∷◌, length, None, sym, refl, ap, arith}
use Rattle.std.proofs.lemmas.Bool.{le-leb, le-ltb, both_ways, or_parts, or_from, false_from_ne_true}
use Rattle.std.proofs.lemmas.Bool.Decides.{nat_tests}
use Rattle.record.specs.declared.Fields.{Fields}
use Rattle.record.specs.declared.Record.{Record}
use Rattle.runs.specs.Places.{At, here, there}
use Rattle.header.specs.Shares.{capacity_of, total_share}
use Rattle.runs.specs.SetUps.{Distinct, SetUp}
use Rattle.setup.specs.SetUps.{same_identity?, among?, any_same_identity?, set_up_refusal}

-- the same device type and identification number
abbrev Same : Fields → Fields → Type 0
Same f g = (f.device_type ≡ g.device_type) × (f.identification ≡ g.identification)

same_identity : (f g : Fields) → Same f g → same_identity? f g ≡ true
same_identity f g s = grind (arith, nat_tests)

identity_same : (f g : Fields) → same_identity? f g ≡ true → Same f g
identity_same f g e = grind (arith, nat_tests)

-- an identity that no channel has
not_among : (f : Fields) {records : List Record} {k : ℕ} {r : Record} → At records k r → among? f records ≡ false → Same f r.fields → ⊥
not_among f (here {x = r} {xs = records}) e s =
    both_ways (same_identity? f r.fields) (or_parts (same_identity? f r.fields) (among? f records) e).0 (same_identity f r.fields s)
not_among f (there {y = q} {xs = records} a) e s = not_among f a (or_parts (same_identity? f q.fields) (among? f records) e).1 s

none_among : (f : Fields) (records : List Record) → ((k : ℕ) (r : Record) → At records k r → Same f r.fields → ⊥) → among? f records ≡ false
none_among f [] h = refl
none_among f (r ∷ records) h =
    or_from (same_identity? f r.fields) (among? f records) (false_from_ne_true (same_identity? f r.fields) (λ e. h 0 r here (identity_same f r.fields e))) (none_among f records (λ k q a. h (suc k) q (there a)))

-- no two of the same identity, and distinct channels
pub distinct : {records : List Record} {j k : ℕ} {q r : Record} → any_same_identity? records ≡ false → At records j q → At records k r → Same q.fields r.fields → j ≡ k
distinct e here here s = refl
distinct e (here {x = q} {xs = records}) (there b) s =
    absurd (not_among q.fields b (or_parts (among? q.fields records) (any_same_identity? records) e).0 s)
distinct e (there a) (here {x = r} {xs = records}) s =
    absurd (not_among r.fields a (or_parts (among? r.fields records) (any_same_identity? records) e).0 (sym s.0, sym s.1))
distinct e (there {y = x} {xs = records} a) (there b) s =
    ap suc (distinct (or_parts (among? x.fields records) (any_same_identity? records) e).1 a b s)

pub none_same : (records : List Record) → Distinct records → any_same_identity? records ≡ false
none_same [] d = refl
none_same (x ∷ records) d =
    or_from (among? x.fields records) (any_same_identity? records)
    (none_among x.fields records (λ k r a s. let z : 0 ≡ suc k = d 0 (suc k) x r here (there a) s.0 s.1 in omega arith))
    (none_same records (λ j k q r a b s t. let z : suc j ≡ suc k = d (suc j) (suc k) q r (there a) (there b) s t in omega arith))

-- a set-up that is to be taken is not refused
pub unrefused : (supply : ℕ) (records : List Record) → SetUp supply records → set_up_refusal supply records ≡ None
unrefused supply records s = rw (le-ltb 15000000 supply s.supplied, le-ltb 15 (length records) s.few, none_same records s.distinct, le-leb (total_share records) (capacity_of supply) s.fits) refl
