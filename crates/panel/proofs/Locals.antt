-- Samples and key turns, by what the rack answers.
use Rattle.std.proofs.Common.{◌≡◌, ℕ, ◌≤◌, Bool, true, false, cond, List, length, set, is_ok, is_some, IfSome, Some, None, Ok, Err, Option, MatchResult, IsErrAnd, sym, refl, ap, ◌∙◌, subst, true≢false, slice_get, arith}
use Rattle.std.specs.declared.result.Result as results
use Rattle.std.specs.Option.{MatchOption}
use Rattle.std.proofs.lemmas.Bool.{le-leb, cond-true}
use Rattle.line.specs.Characters.{Character}
use Rattle.rack.specs.Changes.{written, refused_by, put, unless, answer_of, record_after}
use Rattle.rack.specs.Edits.{Edit}
use Rattle.rack.specs.Meaning.{channel_of, answered, answer_at, after_at, records_after}
use Rattle.rack.specs.Refusals as rack
use Rattle.rack.specs.declared.racks.Rack.{Ghosts}
use Rattle.rack.specs.declared.refusal.RackRefusal.{RackRefusal}
use Rattle.record.specs.Readings.{finite?}
use Rattle.record.specs.declared.Record.{Record}
use Rattle.receiver.specs.Holding.{Holds}
use Rattle.receiver.specs.declared.state.Receiver.{Receiver}
use Rattle.refusals.specs.Refusals.{number_of, numbered}
use Rattle.refusals.specs.declared.Refusal.{Refusal}
use Rattle.refusals.specs.declared.Refusal.TheVariants.{NoChannel}
use Rattle.runs.specs.Channel.{flow_channel, Operation, sample, key, edit_for}
use Rattle.runs.specs.Outcomes.{Outcome, outcome_of, operated_at}
use Rattle.runs.specs.Traces.{Result, local, taken, refused, local_result}
use Rattle.runs.proofs.Places.{at_get, set_same}
use Rattle.panel.specs.declared.state.Panel.{Panel}
use Rattle.panel.specs.Panels.{channels_of, outcome_for, records_in, Operated, Operates, call_number, result_of}
use Rattle.panel.proofs.Doing.{Comes, does, refuses}
use Rattle.panel.proofs.Places.{element_channel}

-- a rack's answer as a result
abbrev rack_result : results.Result (Unit {0}) ℕ → Result flow_channel
rack_result (Ok u) = taken
rack_result (Err n) = refused n

unless_result : (o : Option ℕ) (r : Record) → rack_result (answer_of (unless o r)) ≡ local_result o
unless_result None r = refl
unless_result (Some n) r = refl

after_write : (w : results.Result Record ℕ) (rs : List Record) (k : ℕ) (r : Record) → slice_get rs k ≡ Some r → records_after w rs k ≡ set rs k (record_after w r)
after_write (Ok s) rs k r e = refl
after_write (Err n) rs k r e = sym (set_same (at_get rs k e))

-- what the definition says, by the record of the channel
module _ (rs : List Record) (t : List Character) (k : ℕ) (u : Operation) where
  abbrev meant : Option Record → Outcome flow_channel
  meant o = operated_at flow_channel rs t k u o

  by_record : (o : Option Record) → slice_get rs k ≡ o → (rack_result (answer_of (answered (written (edit_for u)) o)) ≡ (meant o).result) × (records_after (answered (written (edit_for u)) o) rs k ≡ (meant o).rack)
  by_record (Some r) e = (unless_result (refused_by (edit_for u) r.fields) (put (edit_for u) r), after_write (written (edit_for u) r) rs k r e)
  by_record None e = (refl, refl)

  pending_kept : (o : Option Record) → t ≡ (meant o).pending
  pending_kept (Some r) = refl
  pending_kept None = refl

module _ (n : ℕ) (rs rs' : List Record) (x : Receiver) (t : List Character) (k : ℕ) (u : Operation) (few : length rs ≤ 15) (holds : Holds x t)
    (after : rs' ≡ after_at rs k (edit_for u)) where
  pub local_comes : (y : Result flow_channel) → y ≡ rack_result (answer_at rs k (edit_for u)) → Comes (Some n) rs rs' x (outcome_for (Some n) rs t (local k u)) y
  local_comes y e =
      let s = element_channel rs k few in
      let b = by_record rs t k u (channel_of rs k) s in
      subst (λ (p : Outcome flow_channel). Comes (Some n) rs rs' x p y) (sym (ap (operated_at flow_channel rs t k u) s)) (record {
        result_is = e ∙ b.0;
        records_are = after ∙ b.1;
        holds = subst (Holds x) (pending_kept rs t k u (channel_of rs k)) holds;
      })

-- these operations are refused by the numbers of calls only
number_by : (o : Option Record) (u : Operation) (m : ℕ) → answer_of (answered (written (edit_for u)) o) ≡ Err m → 100 ≤ m
number_by None u m e = let z : m ≡ 101 = cc in omega arith
number_by (Some r) (key on) m e = absurd (cc)
number_by (Some r) (sample reading) m e = by (finite? reading) e
  where
    by : (b : Bool) → answer_of (unless (cond b None (Some rack.no_reading)) (record r { reading = reading })) ≡ Err m → 100 ≤ m
    by true h = absurd (cc)
    by false h = let z : m ≡ 108 = cc in omega arith

-- the call's answer by that of the rack
abbrev pub CallsAnswer : results.Result (Unit {0}) RackRefusal → results.Result (Unit {0}) Refusal → Type 0
CallsAnswer q r = MatchResult q (λ u. r ≡ Ok u) (λ e. IsErrAnd r (λ d. number_of d ≡ call_number (rack.number_of e)))

calls_answer : (w : results.Result (Unit {0}) ℕ) (q : results.Result (Unit {0}) RackRefusal) (r : results.Result (Unit {0}) Refusal)
    → rack.numbered q ≡ w → ((m : ℕ) → w ≡ Err m → 100 ≤ m) → CallsAnswer q r → numbered r ≡ w
calls_answer w (Ok u) r a n h = ap numbered h ∙ a
calls_answer w (Err e) (Ok u) a n h = absurd h
calls_answer w (Err e) (Err d) a n h = ap Err (h ∙ cond-true _ _ _ (le-leb 100 (rack.number_of e) (n (rack.number_of e) (sym a)))) ∙ a

as_result : (r : results.Result (Unit {0}) Refusal) → result_of r ≡ rack_result (numbered r)
as_result (Ok u) = refl
as_result (Err e) = refl

pub not_written : (q : results.Result (Unit {0}) RackRefusal) (r : results.Result (Unit {0}) Refusal) → CallsAnswer q r → is_ok r ≡ false → is_ok q ≡ false
not_written (Ok u) (Ok v) h e = cc
not_written (Ok u) (Err d) h e = absurd (cc)
not_written (Err e) r h k = refl

-- an operation on a panel that was set up
operated_comes : (supply : Option ℕ) (rs rs' : List Record) (x : Receiver) (k : ℕ) (u : Operation) → IfSome supply (λ _. length rs ≤ 15) → is_some supply ≡ true
    → rs' ≡ after_at rs k (edit_for u) → (y : Result flow_channel) → y ≡ rack_result (answer_at rs k (edit_for u))
    → (t : List Character) → Holds x t → Comes supply rs rs' x (outcome_for supply rs t (local k u)) y
operated_comes (Some n) rs rs' x k u few up after y e t h = local_comes n rs rs' x t k u few h after y e
operated_comes None rs rs' x k u few up after y e t h = absurd (true≢false (sym up))

-- and on one that was not
missed : (supply : Option ℕ) (rs : List Record) (t : List Character) (k : ℕ) (u : Operation) → is_some supply ≡ false
    → outcome_for supply rs t (local k u) ≡ outcome_of flow_channel (refused 101) (channels_of supply rs) t
missed None rs t k u e = refl
missed (Some n) rs t k u e = absurd (true≢false e)

-- a write where there is a supply
written_once : {X : Type 0} (supply : Option ℕ) (before after : X) (wrote : Type 0) → is_some supply ≡ true → wrote → MatchOption supply (after ≡ before) (λ _. wrote)
written_once (Some n) before after wrote up w = w
written_once None before after wrote up w = absurd (true≢false (sym up))

not_once : {X : Type 0} (supply : Option ℕ) (rack : X) (wrote : Type 0) → is_some supply ≡ false → MatchOption supply (rack ≡ rack) (λ _. wrote)
not_once (Some n) rack wrote e = absurd (true≢false e)
not_once None rack wrote e = refl

module _ {X : Type 0} {G : Ghosts X} where
  pub misses : (p : Panel X G) (k : ℕ) (edit : Edit) → is_some p.supply ≡ false → Operates p p k edit (Err NoChannel)
  misses p k edit e u is = record {
    does = refuses p (local k u) 101 (λ t. missed p.supply (records_in p) t k u e);
    once = not_once p.supply p.rack (G.wrote p.rack p.rack k (edit_for u) (Err 101)) e;
  }

  module _ (p p' : Panel X G) (k : ℕ) (q : results.Result (Unit {0}) RackRefusal) (r : results.Result (Unit {0}) Refusal) where
    abbrev ByWrite : Edit → Type 0
    ByWrite edit = rack.numbered q ≡ answer_at (records_in p) k edit → records_in p' ≡ after_at (records_in p) k edit → G.wrote p.rack p'.rack k edit (rack.numbered q) → Operates p p' k edit r

    by_write : p'.supply ≡ p.supply → p'.receiver ≡ p.receiver → is_some p.supply ≡ true → CallsAnswer q r → (u : Operation)
        → rack.numbered q ≡ answer_at (records_in p) k (edit_for u) → records_in p' ≡ after_at (records_in p) k (edit_for u) → G.wrote p.rack p'.rack k (edit_for u) (rack.numbered q) → Operated p p' k u r
    by_write keeps hears up cases u answer after wrote =
        let rs = records_in p in
        let n : numbered r ≡ answer_at rs k (edit_for u) = calls_answer (answer_at rs k (edit_for u)) q r answer (number_by (channel_of rs k) u) cases in
        let y : result_of r ≡ rack_result (answer_at rs k (edit_for u)) = as_result r ∙ ap rack_result n in
        record {
          does = does p p' (local k u) (result_of r) keeps (λ t h. operated_comes p.supply rs (records_in p') p'.receiver k u p.few up after (result_of r) y t (subst (λ (x : Receiver). Holds x t) (sym hears) h));
          once = written_once p.supply p.rack p'.rack (G.wrote p.rack p'.rack k (edit_for u) (numbered r)) up (subst (λ (a : results.Result (Unit {0}) ℕ). G.wrote p.rack p'.rack k (edit_for u) a) (answer ∙ sym n) wrote);
        }

    pub operated : p'.supply ≡ p.supply → p'.receiver ≡ p.receiver → is_some p.supply ≡ true → CallsAnswer q r → (edit : Edit) → ByWrite edit
    operated keeps hears up cases edit answer after wrote u is =
        let P : Edit → Type 0 = λ (e : Edit). rack.numbered q ≡ answer_at (records_in p) k e → records_in p' ≡ after_at (records_in p) k e → G.wrote p.rack p'.rack k e (rack.numbered q) → Operated p p' k u r in
        subst P (sym is) (by_write keeps hears up cases u) answer after wrote
