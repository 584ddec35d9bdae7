-- A list as its elements, place by place.
use Rattle.std.proofs.Common.{◌≡◌, ℕ, zero, suc, ◌+◌, ◌<◌, ◌≤◌, true, eqb, List, [], ◌∷◌, ◌++◌, length, get_or, take, drop, replicate, sym, refl, ap, ◌∙◌, append_assoc, arith, drop-cons}
use Rattle.std.proofs.lemmas.List.{take-append-drop, drop-drop}
use Rattle.std.proofs.lemmas.Bool.{and_parts, eqb-true}
use Rattle.record.specs.Bytes.{zeros?}

-- the n elements from a place on
abbrev pub listed : ℕ → ℕ → List ℕ → List ℕ
listed at zero xs = []
listed at (suc n) xs = get_or xs at 0 ∷ listed (suc at) n xs

pub listed_is : (n at : ℕ) (xs : List ℕ) → at + n ≤ length xs → listed at n xs ≡ take n (drop at xs)
listed_is zero at xs h = refl
listed_is (suc n) at xs h =
    let l : at < length xs = omega arith in
    rw (drop-cons xs at 0 l) (ap (λ (t : List ℕ). get_or xs at 0 ∷ t) (listed_is n (suc at) xs (omega arith)))

-- a front, a part behind it, and the rest
pub three_parts : (m n : ℕ) (xs : List ℕ) → take m xs ++ take n (drop m xs) ++ drop (m + n) xs ≡ xs
three_parts m n xs =
    append_assoc (take m xs) (take n (drop m xs)) (drop (m + n) xs)
    ∙ ap (λ (t : List ℕ). take m xs ++ t) (ap (λ (t : List ℕ). take n (drop m xs) ++ t) (sym (drop-drop n m xs)) ∙ take-append-drop n (drop m xs))
    ∙ take-append-drop m xs

pub zeros_are : (xs : List ℕ) → zeros? xs ≡ true → xs ≡ replicate (length xs) 0
zeros_are [] h = refl
zeros_are (x ∷ xs) h =
    let p = and_parts (eqb x 0) (zeros? xs) h in
    rw (eqb-true x 0 p.0) (ap (λ (t : List ℕ). 0 ∷ t) (zeros_are xs p.1))
