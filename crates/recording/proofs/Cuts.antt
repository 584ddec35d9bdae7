-- A recording that is cut in two.
use Rattle.std.proofs.Common.{◌≡◌, ℕ, zero, suc, ◌+◌, ◌*◌, ◌/◌, ◌≤◌, List, ◌∷◌, ◌++◌, length, take, drop, sym, refl, ap, ◌∙◌, zero-add, arith}
use Rattle.std.proofs.lemmas.List.{length-append, length-drop, take-append-le, drop-append-le, drop-drop}
use Rattle.std.specs.Simd.{first_chunks}
use Rattle.recording.specs.Recordings.{events_of, rest_of, CutAnywhere}

-- the first events lie all in the first part
events_apart : (n m : ℕ) (a b : List ℕ) → n * 12 ≤ length a → first_chunks 12 (n + m) (a ++ b) ≡ first_chunks 12 n a ++ first_chunks 12 m (drop (n * 12) a ++ b)
events_apart zero m a b h = rw (zero-add m) refl
events_apart (suc n) m a b h =
    let s : suc n + m ≡ suc (n + m) = omega arith in
    let t : 12 + n * 12 ≡ suc n * 12 = omega arith in
    let front = take-append-le 12 a b (omega arith) in
    let back = drop-append-le 12 a b (omega arith) in
    let on = events_apart n m (drop 12 a) b (rw (length-drop 12 a) (omega arith)) in
    let there = ap (λ k. first_chunks 12 m (drop k a ++ b)) t in
    let here = ap (λ l. first_chunks 12 m (l ++ b)) (drop-drop (n * 12) 12 a) in
    rw s (ap (λ e. e ∷ first_chunks 12 (n + m) (drop 12 (a ++ b))) front ∙ ap (λ es. take 12 a ∷ es) (ap (first_chunks 12 (n + m)) back ∙ (on ∙ ap (λ es. first_chunks 12 n (drop 12 a) ++ es) (here ∙ there))))

module _ (a b : List ℕ) where
  -- so many events are in the first part, and so many complete with the second
  abbrev n : ℕ
  n = length a / 12

  abbrev m : ℕ
  m = length (rest_of a ++ b) / 12

  counted : length (a ++ b) / 12 ≡ n + m
  counted = omega (arith, length-append a b, length-append (rest_of a) b, length-drop (n * 12) a)

  cut_events : events_of (a ++ b) ≡ events_of a ++ events_of (rest_of a ++ b)
  cut_events = ap (λ k. first_chunks 12 k (a ++ b)) counted ∙ events_apart n m a b (omega arith)

  cut_rest : rest_of (a ++ b) ≡ rest_of (rest_of a ++ b)
  cut_rest =
      let e : length (a ++ b) / 12 * 12 ≡ n * 12 + m * 12 = omega (arith, counted) in
      ap (λ k. drop k (a ++ b)) e ∙ (sym (drop-drop (m * 12) (n * 12) (a ++ b)) ∙ ap (drop (m * 12)) (drop-append-le (n * 12) a b (omega arith)))

pub cut_anywhere : CutAnywhere
cut_anywhere a b = (cut_events a b, cut_rest a b)
