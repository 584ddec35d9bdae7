-- What a call does, from its one outcome.
use Rattle.std.proofs.Common.{◌∙◌, ◌≡◌, ℕ, ◌<◌, ◌≤◌, List, [], ◌∷◌, ◌++◌, Some, None, Option, sym, refl, subst, Bool, true, false, cond, leb, Ok, Err}
use Rattle.std.proofs.lemmas.Bool.{le-leb, lt-leb, leb-true, leb-false}
use Rattle.std.specs.declared.result.Result as results
use Rattle.line.specs.Marks.{marks_in}
use Rattle.header.specs.Shares.{capacity_of}
use Rattle.line.specs.Characters.{Character}
use Rattle.rack.specs.declared.racks.Rack.{Ghosts}
use Rattle.receiver.specs.Holding.{Holds, HoldsMore, pending, character as character_of}
use Rattle.receiver.proofs.Pending.{holds_pending}
use Rattle.receiver.specs.declared.state.Receiver.{Receiver}
use Rattle.record.specs.declared.Record.{Record}
use Rattle.runs.specs.Channel.{flow_channel}
use Rattle.runs.specs.Outcomes.{Outcome, outcome_of}
use Rattle.runs.specs.Steps.{Step}
use Rattle.runs.specs.Traces.{Call, Result, character, taken, refused, ◌▸◌}
use Rattle.runs.proofs.SetUps.{calls_follow}
use Rattle.panel.specs.declared.state.Panel.{Panel}
use Rattle.panel.specs.Panels.{channels_of, outcome_for, outcome_in, records_for, records_in, Does}

-- the outcome is that of the call, for some pending characters
pub record Comes (supply : Option ℕ) (records records' : List Record) (x' : Receiver) (o : Outcome flow_channel) (result : Result flow_channel) : Type 0 where
  pub result_is : result ≡ o.result
  pub records_are : records' ≡ records_for supply records o
  pub holds : Holds x' o.pending

module _ (records records' : List Record) (x' : Receiver) (c : Call flow_channel) (result : Result flow_channel) where
  steps_on : (n : ℕ) (t : List Character) → Comes (Some n) records records' x' (outcome_for (Some n) records t c) result
      → Step flow_channel (capacity_of n) records t (c ▸ result) records' (outcome_for (Some n) records t c).pending
  steps_on n t h =
      let o = outcome_for (Some n) records t c in
      let s : Step flow_channel (capacity_of n) records t (c ▸ o.result) o.rack o.pending = calls_follow n records t c in
      let s1 : Step flow_channel (capacity_of n) records t (c ▸ result) o.rack o.pending = subst (λ (y : Result flow_channel). Step flow_channel (capacity_of n) records t (c ▸ y) o.rack o.pending) (sym h.result_is) s in
      subst (λ (qs : List Record). Step flow_channel (capacity_of n) records t (c ▸ result) qs o.pending) (sym h.records_are) s1

  steps_under : (supply : Option ℕ) (n : ℕ) → supply ≡ Some n → (t : List Character) → Comes supply records records' x' (outcome_for supply records t c) result
      → Step flow_channel (capacity_of n) records t (c ▸ result) records' (outcome_for supply records t c).pending
  steps_under (Some m) n e t h = let k : m ≡ n = cc in subst (λ (n : ℕ). Step flow_channel (capacity_of n) records t (c ▸ result) records' (outcome_for (Some m) records t c).pending) k (steps_on m t h)
  steps_under None n e t h = absurd (cc)

module _ {X : Type 0} {G : Ghosts X} (p p' : Panel X G) (c : Call flow_channel) (result : Result flow_channel) where
  abbrev pub Always : Type 0
  Always = (t : List Character) → Holds p.receiver t → Comes p.supply (records_in p) (records_in p') p'.receiver (outcome_in p t c) result

  pub does : p'.supply ≡ p.supply → Always → Does p p' c result
  does keeps all = record {
    keeps = keeps;
    result_is = (all (pending p.receiver) (holds_pending p.receiver)).result_is;
    records_are = (all (pending p.receiver) (holds_pending p.receiver)).records_are;
    holds = λ t h. (all t h).holds;
    steps = λ n e t h. steps_under (records_in p) (records_in p') p'.receiver c result p.supply n e t (all t h);
  }

-- an outcome that leaves the channels leaves the records
pub unmoved : (supply : Option ℕ) (records : List Record) (y : Result flow_channel) (t : List Character) → records ≡ records_for supply records (outcome_of flow_channel y (channels_of supply records) t)
unmoved (Some n) records y t = refl
unmoved None records y t = refl

-- a call that has this outcome and leaves the channels
pub comes : (supply : Option ℕ) (records : List Record) (x' : Receiver) (o : Outcome flow_channel) (y : Result flow_channel) (u : List Character)
    → o ≡ outcome_of flow_channel y (channels_of supply records) u → Holds x' u → Comes supply records records x' o y
comes supply records x' o y u e h = subst (λ (o : Outcome flow_channel). Comes supply records records x' o y) (sym e) (record { result_is = refl; records_are = unmoved supply records y u; holds = h })

-- a call that is refused with this outcome, and leaves the panel
pub refuses : {X : Type 0} {G : Ghosts X} (p : Panel X G) (c : Call flow_channel) (n : ℕ)
    → ((t : List Character) → outcome_in p t c ≡ outcome_of flow_channel (refused n) (channels_of p.supply (records_in p)) t) → Does p p c (refused n)
refuses p c n e = does p p c (refused n) refl (λ t h. comes p.supply (records_in p) p.receiver (outcome_in p t c) (refused n) t (e t) h)

-- the marks of which a byte is the sum
taken_by : (b : Bool) (m byte : ℕ) → leb byte 7 ≡ b → ◌≡◌ {A = results.Result ℕ ℕ} (Ok m) (cond b (Ok byte) (Err 109)) → (m ≡ byte) × (byte ≤ 7)
taken_by true m byte b e = (cc, leb-true byte 7 b)
taken_by false m byte b e = absurd (cc)

refused_by : (b : Bool) (n byte : ℕ) → leb byte 7 ≡ b → ◌≡◌ {A = results.Result ℕ ℕ} (Err n) (cond b (Ok byte) (Err 109)) → (n ≡ 109) × (7 < byte)
refused_by true n byte b e = absurd (cc)
refused_by false n byte b e = (cc, leb-false byte 7 b)

-- a character
taken_character : (supply : Option ℕ) (records : List Record) (t : List Character) (c : Character) → c.marks ≤ 7
    → outcome_for supply records t (character c) ≡ outcome_of flow_channel taken (channels_of supply records) (t ++ (c ∷ []))
taken_character supply records t c l = rw (le-leb c.marks 7 l) refl

refused_character : (supply : Option ℕ) (records : List Record) (t : List Character) (c : Character) → 7 < c.marks
    → outcome_for supply records t (character c) ≡ outcome_of flow_channel (refused 109) (channels_of supply records) t
refused_character supply records t c l = rw (lt-leb c.marks 7 l) refl

module _ {X : Type 0} {G : Ghosts X} (p : Panel X G) (byte marks : ℕ) where
  abbrev heard : Character
  heard = record { byte = byte; marks = marks }

  pub hears : (p' : Panel X G) (m : ℕ) → Ok m ≡ marks_in marks → p'.supply ≡ p.supply → records_in p' ≡ records_in p → HoldsMore p.receiver p'.receiver (character_of byte m) → Does p p' (character heard) taken
  hears p' m e keeps same more =
      let k = taken_by (leb marks 7) m marks refl e in
      let all : Always p p' (character heard) taken = λ t h.
      let u : Holds p'.receiver (t ++ (heard ∷ [])) = subst (λ (n : ℕ). Holds p'.receiver (t ++ (character_of byte n ∷ []))) k.0 (more t h) in
      let c = comes p.supply (records_in p) p'.receiver (outcome_in p t (character heard)) taken (t ++ (heard ∷ [])) (taken_character p.supply (records_in p) t heard k.1) u in
      record { result_is = c.result_is; records_are = same ∙ c.records_are; holds = c.holds } in
      does p p' (character heard) taken keeps all

  pub unheard : (n : ℕ) → Err n ≡ marks_in marks → Does p p (character heard) (refused n)
  unheard n e =
      let k = refused_by (leb marks 7) n marks refl e in
      rw k.0 (refuses p (character heard) 109 (λ t. refused_character p.supply (records_in p) t heard k.1))
