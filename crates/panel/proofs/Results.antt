-- A gap's answer and buffer as the result of a trace.
use Rattle.std.proofs.Common.{◌≡◌, ℕ, ◌<◌, ◌≤◌, Bool, true, false, ltb, List, [], length, take, drop, Some, None, Ok, Err, Option, IfOk, IfSome, sym, refl, ap, ◌∙◌, subst, arith, length-append, length-drop}
use Rattle.std.proofs.lemmas.List.{take_at}
use Rattle.std.proofs.lemmas.Bool.{lt-ltb, ltb-true, ltb-false}
use Rattle.std.specs.declared.result.Result as results
use Rattle.line.specs.Characters.{Character, Reception}
use Rattle.rack.specs.declared.racks.Rack.{Ghosts}
use Rattle.rack.specs.Writes.{WriteRelation}
use Rattle.receiver.specs.Holding.{Holds}
use Rattle.receiver.specs.declared.state.Receiver.{Receiver}
use Rattle.receiver.specs.Summaries.{handed_on, held}
use Rattle.record.specs.declared.Record.{Record}
use Rattle.refusals.specs.Refusals.{number_of}
use Rattle.refusals.specs.declared.Refusal.{Refusal}
use Rattle.runs.specs.Channel.{flow_channel}
use Rattle.runs.specs.Outcomes.{outcome_of}
use Rattle.runs.specs.Traces.{Result, gap, taken, refused, silent, answered}
use Rattle.serving.specs.Serving.{Answering, answering_to, answering_in, served, told, to_be_told, buffer_after, records_after, WritesOf, Serves}
use Rattle.serving.specs.declared.answers.Answer.{Answer}
use Rattle.panel.specs.declared.state.Panel.{Panel}
use Rattle.panel.specs.Panels.{channels_of, outcome_in, records_in, Does, answering_result, answering_for, gap_with, gap_result_of, buffer_of, Wrote, Told}
use Rattle.panel.proofs.Panels.{same_panel}
use Rattle.panel.proofs.Doing.{does, refuses}
use Rattle.panel.proofs.Gaps.{gap_comes, pending_served}

-- the answer by channel and length, and the buffer with it in front
module _ (buffer buffer' : List ℕ) where
  answer_is : (k : Answer) (a : Answering) → ◌≡◌ {A = Option (ℕ × ℕ)} (Some (k.channel, k.length)) (Some (a.channel, length a.bytes)) → (k.channel ≡ a.channel) × (k.length ≡ length a.bytes)
  answer_is k a e =
      let h : ◌≡◌ {A = ℕ × ℕ} (k.channel, k.length) (a.channel, length a.bytes) = cc in
      (ap (λ (p : ℕ × ℕ). p.0) h, ap (λ (p : ℕ × ℕ). p.1) h)

  -- what a gap tells, and what the channel that answers does
  abbrev pub Tells : Option Answer → Option Answering → Type 0
  Tells o a = told (Ok o) ≡ to_be_told (Ok a)

  pub gap_result : (o : Option Answer) (a : Option Answering) → Tells o a → buffer' ≡ buffer_after a buffer → gap_result_of (Ok o) buffer' ≡ answering_result a
  gap_result None None e b = refl
  gap_result (Some k) (Some a) e b =
      let l = answer_is k a (cc) in
      let t : take k.length buffer' ≡ a.bytes = ap (take k.length) b ∙ take_at a.bytes (drop (length a.bytes) buffer) k.length (sym l.1) in
      rw (t, l.0) refl
  gap_result None (Some a) e b = absurd (cc)
  gap_result (Some k) None e b = absurd (cc)

  pub gap_bound : (o : Option Answer) (a : Option Answering) → Tells o a → buffer' ≡ buffer_after a buffer → length buffer' ≡ length buffer → IfSome o (λ a. a.length ≤ length buffer)
  gap_bound None a e b l = tt
  gap_bound (Some k) (Some a) e b l =
      let m = (answer_is k a (cc)).1 in
      let s = ap length b ∙ (length-append a.bytes (drop (length a.bytes) buffer)) in
      let d = length-drop (length a.bytes) buffer in
      omega arith
  gap_bound (Some k) None e b l = absurd (cc)

  buffer_is : (a : Option Answering) → buffer_after a buffer ≡ buffer_of (answering_result a) buffer
  buffer_is (Some a) = refl
  buffer_is None = refl

  pub gap_buffer : (y : Result flow_channel) (a : Option Answering) → y ≡ answering_result a → buffer' ≡ buffer_after a buffer → buffer' ≡ buffer_of y buffer
  gap_buffer y a e b = b ∙ (buffer_is a ∙ ap (λ (z : Result flow_channel). buffer_of z buffer) (sym e))

-- what is told as an answer came of a buffer with enough room
module _ (supply : Option ℕ) (records : List Record) (x : Option Reception) (buffer : List ℕ) where
  pub record Roomy (o : Option Answer) : Type 0 where
    pub room : 64 ≤ length buffer
    pub served_is : answering_in (served supply records x buffer) ≡ answering_to supply records x
    pub tells : told (Ok o) ≡ to_be_told (Ok (answering_to supply records x))

  roomy_by : (b : Bool) (o : Option Answer) → ltb (length buffer) 64 ≡ b → told (Ok o) ≡ to_be_told (served supply records x buffer) → Roomy o
  roomy_by true o b e = let h = rw b at e in absurd (cc)
  roomy_by false o b e = record { room = ltb-false (length buffer) 64 b; served_is = rw b refl; tells = rw b at e }

  pub roomy : (o : Option Answer) → told (Ok o) ≡ to_be_told (served supply records x buffer) → Roomy o
  roomy o e = roomy_by (ltb (length buffer) 64) o refl e

  -- and what is refused, of one without
  pub record Short (e : Refusal) : Type 0 where
    pub short : length buffer < 64
    pub none : answering_in (served supply records x buffer) ≡ None
    pub number : number_of e ≡ 102

  short_by : (b : Bool) (d : Refusal) → ltb (length buffer) 64 ≡ b → told (Err d) ≡ to_be_told (served supply records x buffer) → Short d
  short_by true d b e = let h = rw b at e in record { short = ltb-true (length buffer) 64 b; none = rw b refl; number = cc }
  short_by false d b e = let h = rw b at e in absurd (cc)

  pub short : (d : Refusal) → told (Err d) ≡ to_be_told (served supply records x buffer) → Short d
  short d e = short_by (ltb (length buffer) 64) d refl e

pub gap_does : {X : Type 0} {G : Ghosts X} (p p' : Panel X G) (n : ℕ) (y : Result flow_channel) → 64 ≤ n → Holds p'.receiver [] → p'.supply ≡ p.supply
    → (let a = answering_to p.supply (records_in p) (handed_on (held p.receiver)) in (records_in p' ≡ records_after a (records_in p)) × (y ≡ answering_result a)) → Does p p' (gap n) y
gap_does p p' n y room new k h =
    does p p' (gap n) y k (λ t holds.
    let c = gap_comes (records_in p) p.receiver p'.receiver t n holds room new p.supply p.few in
    record { result_is = h.1 ∙ c.result_is; records_are = h.0 ∙ c.records_are; holds = c.holds })

short_gap : {X : Type 0} {G : Ghosts X} (p : Panel X G) (t : List Character) (n : ℕ) → n < 64 → outcome_in p t (gap n) ≡ outcome_of flow_channel (refused 102) (channels_of p.supply (records_in p)) t
short_gap p t n l = rw (lt-ltb n 64 l) refl

pub gap_refused : {X : Type 0} {G : Ghosts X} (p : Panel X G) (n number : ℕ) → n < 64 → number ≡ 102 → Does p p (gap n) (refused number)
gap_refused p n number l e = rw e (refuses p (gap n) 102 (λ t. short_gap p t n l))

-- a gap that is silent has no answer
silent_none : (o : Option Answer) (buffer : List ℕ) → gap_result_of (Ok o) buffer ≡ silent → o ≡ None
silent_none (Some a) buffer e = cc
silent_none None buffer e = refl

-- and where none answers nothing is written
idle_by : {X : Type 0} (wrote : WriteRelation X) (o : Option Answer) (a : Option Answering) (before after : X) → told (Ok o) ≡ to_be_told (Ok a) → o ≡ None → WritesOf wrote a before after → after ≡ before
idle_by wrote o None before after e n w = w
idle_by wrote (Some k) (Some a) before after e n w = absurd (cc)
idle_by wrote None (Some a) before after e n w = absurd (cc)

-- a gap's result is what the channel that answers gives
told_by : {X : Type 0} {G : Ghosts X} (p : Panel X G) (buffer : List ℕ) (y : Result flow_channel) (a : Option Answering) → answering_for p buffer ≡ a → y ≡ answering_result a → Told p buffer y
told_by p buffer taken (Some a) e h = absurd (cc)
told_by p buffer taken None e h = absurd (cc)
told_by p buffer (refused n) (Some a) e h = absurd (cc)
told_by p buffer (refused n) None e h = absurd (cc)
told_by p buffer silent (Some a) e h = absurd (cc)
told_by p buffer silent None e h = e
told_by p buffer (answered channel bytes) (Some a) e h = (a, e, (cc), (cc))
told_by p buffer (answered channel bytes) None e h = absurd (cc)

-- all that is said of a gap
pub record Gapped {X : Type 0} {G : Ghosts X} (p p' : Panel X G) (buffer buffer' : List ℕ) (result : results.Result (Option Answer) Refusal) : Type 0 where
  pub does : Does p p' (gap_with buffer) (gap_result_of result buffer')
  pub left : buffer' ≡ buffer_of (gap_result_of result buffer') buffer
  pub bound : IfOk result (λ o. IfSome o (λ a. a.length ≤ length buffer))
  pub writes : Wrote p p' (answering_for p buffer)
  pub tells : Told p buffer (gap_result_of result buffer')
  pub idle : gap_result_of result buffer' ≡ silent → p'.rack ≡ p.rack

module _ {X : Type 0} {G : Ghosts X} (p : Panel X G) (rack : X) (few : IfSome p.supply (λ _. length (G.records rack) ≤ 15)) (buffer buffer' : List ℕ) (x : Option Reception) (kept : x ≡ handed_on (held p.receiver)) where
  abbrev Serving : Option Reception → results.Result (Option Answer) Refusal → Type 0
  Serving y result = Serves G.records G.wrote (served p.supply (records_in p) y buffer) p.rack rack buffer buffer' result

  abbrev kept_answering : Option Answering
  kept_answering = answering_in (served p.supply (records_in p) (handed_on (held p.receiver)) buffer)

  by_pending : answering_for p buffer ≡ kept_answering
  by_pending = pending_served p.supply (records_in p) p.receiver buffer

  wrote_so : (p' : Panel X G) → Wrote p p' kept_answering → Wrote p p' (answering_for p buffer)
  wrote_so p' w = subst (λ (a : Option Answering). Wrote p p' a) (sym by_pending) w

  module _ (receiver : Receiver) (o : Option Answer) (serves : Serving (handed_on (held p.receiver)) (Ok o)) (new : Holds receiver []) (same : length buffer' ≡ length buffer) where
    abbrev after : Panel X G
    after = record { rack = rack; receiver = receiver; supply = p.supply; few = few }

    abbrev answering : Option Answering
    answering = answering_to p.supply (records_in p) (handed_on (held p.receiver))

    ended : Gapped p after buffer buffer' (Ok o)
    ended =
        let r = roomy p.supply (records_in p) (handed_on (held p.receiver)) buffer o serves.tells in
        let front : buffer' ≡ buffer_after answering buffer = serves.front ∙ ap (λ (a : Option Answering). buffer_after a buffer) r.served_is in
        let leaves : records_in after ≡ records_after answering (records_in p) = serves.leaves ∙ ap (λ (a : Option Answering). records_after a (records_in p)) r.served_is in
        let writes : WritesOf G.wrote answering p.rack rack = subst (λ (a : Option Answering). WritesOf G.wrote a p.rack rack) r.served_is serves.writes in
        let y = gap_result buffer buffer' o answering r.tells front in
        record {
          does = gap_does p after (length buffer) (gap_result_of (Ok o) buffer') r.room new refl (leaves, y);
          left = gap_buffer buffer buffer' (gap_result_of (Ok o) buffer') answering y front;
          bound = gap_bound buffer buffer' o answering r.tells front same;
          writes = wrote_so after serves.writes;
          tells = told_by p buffer (gap_result_of (Ok o) buffer') answering (by_pending ∙ r.served_is) y;
          idle = λ s. idle_by G.wrote o answering p.rack rack r.tells (silent_none o buffer' s) writes;
        }

  pub gap_ended : (receiver : Receiver) (o : Option Answer) → Serving x (Ok o) → Holds receiver [] → length buffer' ≡ length buffer
      → Gapped p (record { rack = rack; receiver = receiver; supply = p.supply; few = few }) buffer buffer' (Ok o)
  gap_ended receiver o serves = ended receiver o (subst (λ (y : Option Reception). Serving y (Ok o)) kept serves)

  module _ (d : Refusal) (serves : Serving (handed_on (held p.receiver)) (Err d)) where
    abbrev kept_panel : Panel X G
    kept_panel = record { rack = rack; receiver = p.receiver; supply = p.supply; few = few }

    unmoved_rack : rack ≡ p.rack
    unmoved_rack =
        let s = short p.supply (records_in p) (handed_on (held p.receiver)) buffer d serves.tells in
        subst (λ (a : Option Answering). WritesOf G.wrote a p.rack rack) s.none serves.writes

    same_by : kept_panel ≡ p
    same_by = same_panel p rack few unmoved_rack

    failed : Gapped p kept_panel buffer buffer' (Err d)
    failed =
        let s = short p.supply (records_in p) (handed_on (held p.receiver)) buffer d serves.tells in
        record {
          does = subst (λ (q : Panel X G). Does p q (gap_with buffer) (refused (number_of d))) (sym same_by) (gap_refused p (length buffer) (number_of d) s.short s.number);
          left = serves.front ∙ ap (λ (a : Option Answering). buffer_after a buffer) s.none;
          bound = tt;
          writes = wrote_so kept_panel serves.writes;
          tells = by_pending ∙ s.none;
          idle = λ _. unmoved_rack;
        }

  pub gap_failed : (d : Refusal) (result : results.Result (Option Answer) Refusal) → result ≡ Err d → Serving x (Err d)
      → Gapped p (record { rack = rack; receiver = p.receiver; supply = p.supply; few = few }) buffer buffer' result
  gap_failed d result e serves =
      let k = failed d (subst (λ (y : Option Reception). Serving y (Err d)) kept serves) in
      subst (λ (r : results.Result (Option Answer) Refusal). Gapped p (kept_panel d (subst (λ (y : Option Reception). Serving y (Err d)) kept serves)) buffer buffer' r) (sym e) k

  pub gap_same : (d : Refusal) → Serving x (Err d) → ◌≡◌ {A = Panel X G} (record { rack = rack; receiver = p.receiver; supply = p.supply; few = few }) p
  gap_same d serves = same_by d (subst (λ (y : Option Reception). Serving y (Err d)) kept serves)
