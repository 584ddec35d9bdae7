-- Lists by place, counted from 0.
use Rattle.std.specs.Prelude.{◌≡◌, ℕ, zero, suc, Bool, true, if◌then◌else◌, not, List, [], ◌∷◌, Some, None, Option}
use Rattle.std.specs.List.{list_all}
use Rattle.std.specs.Option.{option_map}

-- the list has x at this place
pub data At {X : Type 0} : List X → ℕ → X → Type 0 where
  here : {x : X} {xs : List X} → At (x ∷ xs) zero x
  there : {x y : X} {xs : List X} {place : ℕ} → At xs place x → At (y ∷ xs) (suc place) x

-- the test holds at this place, and at no other
pub record OnlyAt {X : Type 0} (test : X → Bool) (xs : List X) (place : ℕ) : Type 0 where
  pub holds : (x : X) → At xs place x → test x ≡ true
  pub alone : (j : ℕ) (x : X) → At xs j x → test x ≡ true → j ≡ place

module _ {X : Type 0} where
  -- the test holds nowhere
  abbrev pub nowhere? : (X → Bool) → List X → Bool
  nowhere? test xs = list_all (λ x. not (test x)) xs

  -- the one place where the test holds, if there is just one
  abbrev pub only_place : (X → Bool) → List X → Option ℕ
  only_place test [] = None
  only_place test (x ∷ xs) =
      if test x
      then (if nowhere? test xs then Some 0 else None)
      else option_map suc (only_place test xs)
