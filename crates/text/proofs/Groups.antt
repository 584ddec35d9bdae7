-- One group more, the length of what the groups give, and a regrouping undone by another.
use Rattle.std.proofs.Common.{◌≡◌, ℕ, zero, suc, ◌+◌, ◌*◌, ◌<◌, List, ◌++◌, length, get_or, take, drop, refl, sym, ◌∙◌, append_assoc, suc-mul, add_comm, zero-mul, add-one, arith, length-append}
use borrow.Rule.Slice.PartMut.{put_mid}
use Rattle.std.specs.Simd.{first_chunks}
use Rattle.std.specs.List.{AllByRecursion}
use Rattle.std.proofs.lemmas.List.{drop-drop, append-nil, take_at, drop_at, nil_from_length, length-take-le, length-drop, take-append-drop}
use Rattle.std.proofs.ByRecursion.{All-take, All-drop}
use Rattle.text.specs.Groups.{grouped}

-- a group by its place
pub chunk_at : (w n : ℕ) (xs : List ℕ) (i : ℕ) (d : List ℕ) → i < n → get_or (first_chunks w n xs) i d ≡ take w (drop (i * w) xs)
chunk_at w zero xs i d h = absurd (omega arith)
chunk_at w (suc n) xs zero d h = rw zero-mul refl
chunk_at w (suc n) xs (suc i) d h = rw (chunk_at w n (drop w xs) i d (omega arith), drop-drop, suc-mul, add_comm (i * w) w) refl

module _ (f : List ℕ → List ℕ) (w : ℕ) where
  pub grouped_more : (n : ℕ) (xs : List ℕ) → grouped (suc n) w f xs ≡ grouped n w f xs ++ f (take w (drop (n * w) xs))
  grouped_more zero xs = rw zero-mul (append-nil (f (take w xs)))
  grouped_more (suc n) xs =
      rw (grouped_more n (drop w xs), drop-drop (n * w) w xs, suc-mul n w, add_comm (n * w) w)
      (sym (append_assoc (f (take w xs)) (grouped n w f (drop w xs)) (f (take w (drop (w + n * w) xs)))))

  module _ (v : ℕ) (sized : (ys : List ℕ) → length (f ys) ≡ v) where
    pub length_grouped : (n : ℕ) (xs : List ℕ) → length (grouped n w f xs) ≡ n * v
    length_grouped zero xs = sym (zero-mul v)
    length_grouped (suc n) xs = rw (length-append, sized, length_grouped n (drop w xs), suc-mul) (add_comm v (n * v))

    -- the buffer of a loop that has written n groups, after one group more
    pub filled_more : (n : ℕ) (xs out : List ℕ) {k : ℕ} {now b : List ℕ} → now ≡ grouped n w f xs ++ drop (n * v) out → k ≡ v → b ≡ f (take w (drop (n * w) xs)) → put_mid (n * v) k now b ≡ grouped (n + 1) w f xs ++ drop ((n + 1) * v) out
    filled_more n xs out i k e =
        let l = length_grouped n xs in
        let front = take_at (grouped n w f xs) (drop (n * v) out) (n * v) l in
        let back = drop_at (grouped n w f xs) (drop (n * v) out) (n * v) l in
        rw (i, k, front, back, drop-drop, e, add-one, suc-mul, grouped_more n xs) (sym (append_assoc (grouped n w f xs) (f (take w (drop (n * w) xs))) (drop (n * v + v) out)))

    -- g undoes f on each group whose elements have P: so does g, group by group, what f did group by group
    pub regrouped : (g : List ℕ → List ℕ) (P : ℕ → Type 0) → ((ys : List ℕ) → length ys ≡ w → AllByRecursion P ys → g (f ys) ≡ ys) → (n : ℕ) (xs : List ℕ) → length xs ≡ n * w → AllByRecursion P xs → grouped n v g (grouped n w f xs) ≡ xs
    regrouped g P undoes zero xs l a = sym (nil_from_length xs (l ∙ zero-mul w))
    regrouped g P undoes (suc n) xs l a =
        let s = suc-mul n w in
        let h : length (take w xs) ≡ w = length-take-le w xs (omega arith) in
        let t : length (drop w xs) ≡ n * w = rw length-drop (omega arith) in
        rw (take_at (f (take w xs)) (grouped n w f (drop w xs)) v (sized (take w xs)), drop_at (f (take w xs)) (grouped n w f (drop w xs)) v (sized (take w xs)), undoes (take w xs) h (All-take P w xs a), regrouped g P undoes n (drop w xs) t (All-drop P w xs a)) (take-append-drop w xs)
