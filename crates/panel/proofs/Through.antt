-- What the rack of a panel goes through at a call.
use Rattle.std.proofs.Common.{◌≡◌, ℕ, ltb, cond, List, length, Some, Ok, Err, sym, refl, subst}
use Rattle.std.specs.declared.result.Result as results
use Rattle.line.specs.Characters.{received}
use Rattle.rack.specs.declared.racks.Rack.{Ghosts}
use Rattle.receiver.specs.Holding.{pending}
use Rattle.refusals.specs.Refusals.{number_of, numbered}
use Rattle.refusals.specs.declared.Refusal.{Refusal}
use Rattle.refusals.specs.declared.Refusal.TheVariants.{ShortBuffer}
use Rattle.runs.specs.Channel.{Operation, edit_for}
use Rattle.runs.specs.Traces.{local}
use Rattle.serving.specs.Serving.{answering_in, answering_to}
use Rattle.panel.specs.declared.state.Panel.{Panel}
use Rattle.panel.specs.Panels.{records_in, result_of, answer_in, OneWrite, Wrote, Through, answering_for}

-- the answer of a call is that of its result
answers_same : (r : results.Result (Unit {0}) Refusal) → numbered r ≡ answer_in (result_of r)
answers_same (Ok u) = refl
answers_same (Err e) = refl

module _ {X : Type 0} {G : Ghosts X} (p p' : Panel X G) where
  -- of the lent buffer only its length counts
  pub wrote_by : (out : List ℕ) → Wrote p p' (answering_for p out) → (buffer : List ℕ) → length buffer ≡ length out → Wrote p p' (answering_for p buffer)
  wrote_by out w buffer e =
      let P : ℕ → Type 0 = λ n. Wrote p p' (answering_in (cond (ltb n 64) (Err (number_of ShortBuffer)) (Ok (answering_to p.supply (records_in p) (Some (received (pending p.receiver))))))) in
      subst P (sym e) w

  pub one_write : (channel : ℕ) (operation : Operation) (r : results.Result (Unit {0}) Refusal) → OneWrite p p' channel (edit_for operation) (numbered r) → Through p p' (local channel operation) (result_of r)
  one_write channel operation r w = subst (λ a. OneWrite p p' channel (edit_for operation) a) (answers_same r) w
