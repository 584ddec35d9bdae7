-- Runs in a row and apart; the line and what else each step keeps; two runs with the same calls.
use Rattle.std.proofs.Common.{◌≡◌, ℕ, [], ◌∷◌, ◌++◌, sym, refl, ap, ◌∙◌, subst₂, arith}
use Rattle.runs.specs.Devices.{Device}
use Rattle.runs.specs.Traces.{Rack, Pending, Interaction, Trace}
use Rattle.runs.specs.Steps.{Step, Run, rests, goes}
use Rattle.runs.specs.Outcomes.{Outcome, outcome, outcome_of}
use Rattle.runs.specs.Histories.{pending_after}
use Rattle.runs.specs.Laws.{calls_of}
use Rattle.runs.proofs.Outcomes.{step_outcome}
use Rattle.runs.proofs.Steps.{pending_step}

module _ (D : Device) (capacity : ℕ) where
  pub run_append : {records : Rack D} {pending : Pending D} {es : Trace D} {records' : Rack D} {pending' : Pending D} {fs : Trace D} {records'' : Rack D} {pending'' : Pending D}
      → Run D capacity records pending es records' pending' → Run D capacity records' pending' fs records'' pending'' → Run D capacity records pending (es ++ fs) records'' pending''
  run_append rests v = v
  run_append (goes s w) v = goes s (run_append w v)

  -- a run goes on by a step
  pub run_more : {records : Rack D} {pending : Pending D} {es : Trace D} {records' : Rack D} {pending' : Pending D} {e : Interaction D} {records'' : Rack D} {pending'' : Pending D}
      → Run D capacity records pending es records' pending' → Step D capacity records' pending' e records'' pending'' → Run D capacity records pending (es ++ (e ∷ [])) records'' pending''
  run_more w s = run_append w (goes s rests)

  -- the state that a run passes between two parts of its trace
  pub record Passed (start : Rack D) (begun : Pending D) (before after : Trace D) (records'' : Rack D) (pending'' : Pending D) : Type 0 where
    pub rack : Rack D
    pub pending : Pending D
    pub until : Run D capacity start begun before rack pending
    pub onward : Run D capacity rack pending after records'' pending''

  pub run_split : (before after : Trace D) {records : Rack D} {pending : Pending D} {records'' : Rack D} {pending'' : Pending D} → Run D capacity records pending (before ++ after) records'' pending'' → Passed records pending before after records'' pending''
  run_split [] after {records} {pending} w = record { rack = records; pending = pending; until = rests; onward = w }
  run_split (e ∷ before) after (goes s w) = let p = run_split before after w in record { rack = p.rack; pending = p.pending; until = goes s p.until; onward = p.onward }

  -- what each step keeps, a run keeps
  pub run_keeps : (P : Rack D → Pending D → Type 0)
      → ((records : Rack D) (pending : Pending D) (e : Interaction D) (records' : Rack D) (pending' : Pending D) → Step D capacity records pending e records' pending' → P records pending → P records' pending')
      → {records : Rack D} {pending : Pending D} {es : Trace D} {records' : Rack D} {pending' : Pending D} → Run D capacity records pending es records' pending' → P records pending → P records' pending'
  run_keeps P step rests p = p
  run_keeps P step (goes s w) p = run_keeps P step w (step _ _ _ _ _ s p)

  pub pending_run : {records : Rack D} {pending : Pending D} {es : Trace D} {records' : Rack D} {pending' : Pending D} → Run D capacity records pending es records' pending' → pending' ≡ pending_after D pending es
  pending_run rests = refl
  pending_run (goes {es = es} s w) = pending_run w ∙ ap (λ (v : Pending D). pending_after D v es) (pending_step D capacity s)

  -- from one state the same call has the same outcome
  pub same_outcome : {records : Rack D} {pending : Pending D} {e : Interaction D} {records₁ : Rack D} {pending₁ : Pending D} {f : Interaction D} {records₂ : Rack D} {pending₂ : Pending D}
      → Step D capacity records pending e records₁ pending₁ → Step D capacity records pending f records₂ pending₂ → e.call ≡ f.call → outcome_of D e.result records₁ pending₁ ≡ outcome_of D f.result records₂ pending₂
  same_outcome {records} {pending} s u e = sym (step_outcome D capacity s) ∙ ap (outcome D capacity records pending) e ∙ step_outcome D capacity u

  pub same_run : {records : Rack D} {pending : Pending D} {es : Trace D} {records₁ : Rack D} {pending₁ : Pending D} {fs : Trace D} {records₂ : Rack D} {pending₂ : Pending D}
      → Run D capacity records pending es records₁ pending₁ → Run D capacity records pending fs records₂ pending₂ → calls_of D es ≡ calls_of D fs → (es ≡ fs) × (records₁ ≡ records₂) × (pending₁ ≡ pending₂)
  same_run rests rests e = (refl, refl, refl)
  same_run rests (goes u v) e = let z : ◌≡◌ {A = ℕ} 0 1 = cc in absurd (omega arith)
  same_run (goes s w) rests e = let z : ◌≡◌ {A = ℕ} 0 1 = cc in absurd (omega arith)
  same_run (goes {e = a} {es = es} s w) (goes {e = b} {es = fs} {records'' = records₂} {pending'' = pending₂} u v) e =
      let first : a.call ≡ b.call = cc in
      let rest : calls_of D es ≡ calls_of D fs = cc in
      let o = same_outcome s u first in
      let h = same_run w (subst₂ (λ (x : Rack D) (y : Pending D). Run D capacity x y fs records₂ pending₂) (sym (ap (λ (x : Outcome D). x.rack) o)) (sym (ap (λ (x : Outcome D). x.pending) o)) v) rest in
      let ab : a ≡ b = λ i. record { call = first i; result = (o i).result } in
      (λ i. ab i ∷ h.0 i, h.1, h.2)
