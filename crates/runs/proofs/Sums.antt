-- Sums over lists, by place.
use Rattle.std.proofs.Common.{◌≡◌, ℕ, zero, suc, ◌+◌, List, [], ◌∷◌, map, set, refl, arith}
use Rattle.runs.specs.Places.{At, here, there}
use Rattle.runs.specs.Shares.{sum_of, sum_but}

module _ {X : Type 0} (amount : X → ℕ) where
  pub sum_at : {xs : List X} {place : ℕ} {x : X} → At xs place x → sum_of amount xs ≡ sum_but amount xs place + amount x
  sum_at here = omega arith
  sum_at (there a) = let h = sum_at a in omega arith

  pub sum_set : {xs : List X} {place : ℕ} {x : X} (y : X) → At xs place x → sum_of amount (set xs place y) ≡ sum_but amount xs place + amount y
  sum_set y here = omega arith
  sum_set y (there a) = let h = sum_set y a in omega arith

module _ {X Y : Type 0} (f : X → Y) (amount : Y → ℕ) where
  pub sum_map : (xs : List X) → sum_of amount (map f xs) ≡ sum_of (λ x. amount (f x)) xs
  sum_map [] = refl
  sum_map (x ∷ xs) = let h = sum_map xs in omega arith

  pub but_map : (xs : List X) (place : ℕ) → sum_but amount (map f xs) place ≡ sum_but (λ x. amount (f x)) xs place
  but_map [] place = refl
  but_map (x ∷ xs) zero = sum_map xs
  but_map (x ∷ xs) (suc place) = let h = but_map xs place in omega arith
