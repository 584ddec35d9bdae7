-- The shares of lawful records, and their sum channel by channel.
use Rattle.std.proofs.Common.{◌≡◌, ℕ, suc, ◌+◌, ◌^◌, ◌<◌, ◌≤◌, leb, List, [], ◌∷◌, length, Some, None, Ok, Err, Option, Result, sym, refl, ap, ◌∙◌, add-zero, zero-add, arith}
use Rattle.std.specs.List.{sum_by, range_with_len}
use Rattle.std.specs.Option.{MatchOption}
use Rattle.std.specs.Result.{MatchResult}
use Rattle.std.proofs.lemmas.Nat.{mul-le}
use Rattle.std.proofs.lemmas.List.Sums.{sum_by-cons}
use Rattle.std.proofs.lemmas.Bool.{and_parts, leb-true, le-leb, lt-ltb, cond-true}
use Rattle.rack.specs.Refusals.{numbered}
use Rattle.rack.specs.declared.refusal.RackRefusal.{RackRefusal}
use Rattle.setpoint.specs.Load.{load_of, fitting_load}
use Rattle.setpoint.specs.Numbers.{full_load, most_full_scale}
use Rattle.setpoint.specs.Share.{share_of}
use Rattle.setpoint.specs.Value.{value_of}
use Rattle.setpoint.proofs.Percents.{lawful_laws}
use Rattle.record.specs.Lawful.{Lawful}
use Rattle.record.specs.declared.Fields.{Fields}
use Rattle.record.specs.declared.Record.{Record}
use Rattle.rack.specs.Meaning.{told, record_at, answered}
use Rattle.rack.proofs.Channels.{channel_plain}
use Rattle.header.specs.Shares.{fields_share, option_share, share_at, most_share, total_share, rack_share}

-- a lawful setpoint has a load, of at most 102,400
lawful_load : (r : Record) → Lawful r → Some (load_of (value_of r.fields.setpoint)) ≡ fitting_load (value_of r.fields.setpoint)
lawful_load r h =
    let p = r.fields.setpoint in
    let laws = lawful_laws p in
    let l = h.fields.setpoint.1 in
    sym (cond-true _ _ _ (laws.loaded l) ∙ cond-true _ _ _ (lt-ltb (load_of (value_of p)) (2 ^ 32) (omega (arith, laws.bounded l))))

-- a share computed of the load that fields have
abbrev pub Drawn : ℕ → Fields → Type 0
Drawn n f = MatchOption (fitting_load (value_of f.setpoint)) (n ≡ 0) (λ load. n ≡ share_of load f.full_scale)

drawn_is : (r : Record) → Lawful r → (n : ℕ) → Drawn n r.fields → n ≡ fields_share r.fields
drawn_is r h n d = rw (sym (lawful_load r h)) at d

share_bound : (r : Record) → Lawful r → fields_share r.fields ≤ most_share
share_bound r h =
    let load = load_of (value_of r.fields.setpoint) in
    let scale = r.fields.full_scale in
    let p = and_parts (leb 1 scale) (leb scale most_full_scale) h.fields.full_scale in
    mul-le load scale full_load most_full_scale ((lawful_laws r.fields.setpoint).bounded h.fields.setpoint.1) (leb-true scale most_full_scale p.1)

-- the share computed of the fields that a channel told
pub told_share : (o : Option Record) → ((r : Record) → o ≡ Some r → Lawful r) → (a : Result Fields RackRefusal) → numbered a ≡ answered (λ x. Ok x.fields) o → (n : ℕ) → MatchResult a (Drawn n) (λ _. n ≡ 0)
    → (n ≡ option_share o) × (n ≤ most_share)
told_share (Some r) h (Ok f) e n d =
    let same : f ≡ r.fields = cc in
    let s = drawn_is r (h r refl) n (rw same at d) in
    (s, omega (arith, s, share_bound r (h r refl)))
told_share (Some r) h (Err x) e n d = cc
told_share None h (Ok f) e n d = cc
told_share None h (Err x) e n d = (d, omega arith)

-- the sum over the places of a list
sum_of_places : (f : ℕ → ℕ) (records : List Record) (a : ℕ) → ((k : ℕ) → k < length records → f (a + k) ≡ option_share (record_at records k)) → sum_by f (range_with_len a (length records)) ≡ total_share records
sum_of_places f [] a h = refl
sum_of_places f (r ∷ records) a h =
    let more = sum_of_places f records (a + 1) (λ k l. ap f (omega arith) ∙ h (suc k) (omega arith)) in
    omega (arith, sum_by-cons f a (range_with_len (a + 1) (length records)), ap f (add-zero a), h 0 (omega arith), more)

pub total_is : (records : List Record) (n : ℕ) → n ≡ told records → n ≤ 15 → Ok (sum_by (share_at records) (range_with_len 0 n)) ≡ rack_share records
total_is records n t few =
    let l : n ≡ length records = omega arith in
    let sums = sum_of_places (share_at records) records 0 (λ k i. ap (share_at records) (zero-add k) ∙ ap option_share (channel_plain records k (omega arith))) in
    rw (l, sums, le-leb (length records) 15 (omega arith)) refl
