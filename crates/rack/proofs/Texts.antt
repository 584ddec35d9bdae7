-- A text with a run of bytes written into it.
use Rattle.std.proofs.Common.{◌≡◌, ℕ, ◌+◌, ◌-◌, ◌<◌, ◌≤◌, ◌&&◌, false, ltb, leb, List, ◌++◌, length, get_or, take, drop, sym, ap, ◌∙◌, inl, inr, arith, length-append}
use Rattle.std.proofs.lemmas.Bool.{cases_lt, lt-ltb, le-leb, and_from, true≢false}
use Rattle.std.proofs.lemmas.List.{get_or_append_left, get_or-append_right, get_or-take, get_or-drop, length-take-le, length-drop}
use Rattle.std.specs.List.{slice_range}
use Rattle.refusals.specs.Filling.{placed}
use Rattle.refusals.proofs.Placing.{placed_part}

module _ (place : ℕ) (bytes text : List ℕ) (room : place + length bytes ≤ length text) where
  pub run_stands : slice_range (placed place bytes text) place (place + length bytes) ≡ bytes
  run_stands =
      let e : place + length bytes - place ≡ length bytes = omega arith in
      rw e (placed_part place bytes text room)

  front : length (take place text) ≡ place
  front = length-take-le place text (omega arith)

  pub length_placed : length (placed place bytes text) ≡ length text
  length_placed = simp (length-append, length-drop) (omega (arith, front))

  before : (at : ℕ) → at < place → get_or (placed place bytes text) at 0 ≡ get_or text at 0
  before at h =
      let rest = drop (place + length bytes) text in
      get_or_append_left (take place text ++ bytes) rest 0 at (omega (arith, front, length-append (take place text) bytes))
      ∙ (get_or_append_left (take place text) bytes 0 at (omega (arith, front)) ∙ get_or-take place text at 0 h)

  behind : (at : ℕ) → place + length bytes ≤ at → get_or (placed place bytes text) at 0 ≡ get_or text at 0
  behind at h =
      let n = place + length bytes in
      let l : length (take place text ++ bytes) ≡ n = length-append (take place text) bytes ∙ ap (λ k. k + length bytes) front in
      get_or-append_right (take place text ++ bytes) (drop n text) n at 0 l h
      ∙ (get_or-drop n text (at - n) 0 ∙ ap (λ k. get_or text k 0) (omega arith))

  -- a byte outside of the run is as it was
  pub outside_kept : (at : ℕ) → (leb place at && ltb at (place + length bytes)) ≡ false → get_or (placed place bytes text) at 0 ≡ get_or text at 0
  outside_kept at h = elim (cases_lt at place) [
    | inl l ↦ before at l
    | inr p ↦ elim (cases_lt at (place + length bytes)) [
      | inl l ↦ absurd (true≢false (sym (and_from (leb place at) (ltb at (place + length bytes)) (le-leb place at p) (lt-ltb at (place + length bytes) l)) ∙ h))
      | inr q ↦ behind at q
    ]
  ]
