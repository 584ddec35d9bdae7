-- The lone panel's answers and results are those of its channel.
use Rattle.std.proofs.Common.{◌≡◌, ℕ, Bool, true, false, cond, eqb, List, [], ◌∷◌, ◌++◌, sym, refl, ap, ◌∙◌, ap₂, append_assoc}
use Rattle.runs.specs.Devices.{Device}
use Rattle.runs.specs.Traces.{Pending, Call, Result, Interaction, Trace, character, gap, local, taken, refused, silent, answered, ◌▸◌}
use Rattle.runs.specs.Histories.{pending_next, collected, answer_of, answers_of, local_result_of, local_results_of, taken_characters, lone_at, lone}

module _ (D : Device) {X : Type 0} (give : Call D → Result D → List X) where
  collected_append : (es fs : Trace D) → collected D give (es ++ fs) ≡ collected D give es ++ collected D give fs
  collected_append [] fs = refl
  collected_append (e ∷ es) fs = ap (λ (l : List X). give e.call e.result ++ l) (collected_append es fs) ∙ sym (append_assoc (give e.call e.result) (collected D give es) (collected D give fs))

  -- a transmission on the lone panel gives what its answer gives
  collected_heard : ((c : D.Character) → give (character c) taken ≡ []) → (pending : Pending D) (e : Interaction D) → collected D give (taken_characters D pending ++ (e ∷ [])) ≡ collected D give (e ∷ [])
  collected_heard none [] e = refl
  collected_heard none (c ∷ pending) e = rw (none c) (collected_heard none pending e)

  collected_lone : (place : ℕ) (tell : Call D → Result D → List X) → ((pending : Pending D) (c : Call D) (result : Result D) → collected D give (lone_at D place pending c result) ≡ tell c result)
      → (pending : Pending D) (es : Trace D) → collected D give (lone D place pending es) ≡ collected D tell es
  collected_lone place tell same pending [] = refl
  collected_lone place tell same pending (e ∷ es) =
      collected_append (lone_at D place pending e.call e.result) (lone D place (pending_next D pending e.call e.result) es)
      ∙ ap₂ (λ (l m : List X). l ++ m) (same pending e.call e.result) (collected_lone place tell same (pending_next D pending e.call e.result) es)

module _ (D : Device) where
  pub lone_answers : (place : ℕ) (es : Trace D) → answers_of D 0 (lone D place [] es) ≡ answers_of D place es
  lone_answers place es = collected_lone D (answer_of D 0) place (answer_of D place) same [] es
    where
      one : (pending : Pending D) (a : D.Answer) (d b : Bool) → D.denial? a ≡ d
          → answers_of D 0 (cond d [] (cond b (taken_characters D pending ++ ((gap 64 ▸ answered 0 a) ∷ [])) [])) ≡ cond d [] (cond b (a ∷ []) [])
      one pending a true b e = refl
      one pending a false true e = collected_heard D (answer_of D 0) (λ c. refl) pending (gap 64 ▸ answered 0 a) ∙ rw e
      one pending a false false e = refl

      same : (pending : Pending D) (c : Call D) (result : Result D) → answers_of D 0 (lone_at D place pending c result) ≡ answer_of D place c result
      same pending (character c) result = refl
      same pending (gap n) taken = refl
      same pending (gap n) (refused m) = refl
      same pending (gap n) silent = refl
      same pending (gap n) (answered j a) = one pending a (D.denial? a) (eqb j place) refl
      same pending (local j operation) result = elim (eqb j place) as (λ b. answers_of D 0 (cond b ((local 0 operation ▸ result) ∷ []) []) ≡ []) [ true ↦ refl | false ↦ refl ]

  pub lone_results : (place : ℕ) (es : Trace D) → local_results_of D 0 (lone D place [] es) ≡ local_results_of D place es
  lone_results place es = collected_lone D (local_result_of D 0) place (local_result_of D place) same [] es
    where
      one : (pending : Pending D) (a : D.Answer) (d b : Bool) → local_results_of D 0 (cond d [] (cond b (taken_characters D pending ++ ((gap 64 ▸ answered 0 a) ∷ [])) [])) ≡ []
      one pending a true b = refl
      one pending a false true = collected_heard D (local_result_of D 0) (λ c. refl) pending (gap 64 ▸ answered 0 a)
      one pending a false false = refl

      same : (pending : Pending D) (c : Call D) (result : Result D) → local_results_of D 0 (lone_at D place pending c result) ≡ local_result_of D place c result
      same pending (character c) result = refl
      same pending (gap n) taken = refl
      same pending (gap n) (refused m) = refl
      same pending (gap n) silent = refl
      same pending (gap n) (answered j a) = one pending a (D.denial? a) (eqb j place)
      same pending (local j operation) result = elim (eqb j place) as (λ b. local_results_of D 0 (cond b ((local 0 operation ▸ result) ∷ []) []) ≡ cond b (result ∷ []) []) [ true ↦ refl | false ↦ refl ]
