-- Lists by place.
use Rattle.std.proofs.Common.{◌≡◌, ℕ, zero, suc, Bool, true, false, cond, not, eqb, ◌↔◌, List, [], ◌∷◌, map, set, Some, None, Option, sym, refl, ap, ◌∙◌, subst, arith, slice_get}
use Rattle.std.proofs.lemmas.Bool.{eqb-true, eqb-false, both_ways, not-true, and_parts}
use Rattle.std.specs.Option.{option_map}
use Rattle.runs.specs.Places.{At, here, there, OnlyAt, nowhere?, only_place}

-- a test that cannot pass
untrue : (b : Bool) → (b ≡ true → ⊥) → b ≡ false
untrue true h = absurd (h refl)
untrue false h = refl

pub none_some : {X : Type 0} {o : Option X} {x : X} → o ≡ None → o ≡ Some x → ⊥
none_some p q = let z : ◌≡◌ {A = ℕ} 0 1 = cc in omega arith

pub not_some : {X : Type 0} (o : Option X) → ((x : X) → o ≡ Some x → ⊥) → o ≡ None
not_some (Some x) h = absurd (h x refl)
not_some None h = refl

module _ {X : Type 0} where
  pub at_one : {xs : List X} {place : ℕ} {x y : X} → At xs place x → At xs place y → x ≡ y
  at_one here here = refl
  at_one (there a) (there b) = at_one a b

  pub at_sole : {x y : X} {place : ℕ} → At (x ∷ []) place y → place ≡ 0
  at_sole here = refl
  at_sole (there a) = elim a [ ]

  pub at_set : {xs : List X} {place : ℕ} {x : X} (y : X) → At xs place x → At (set xs place y) place y
  at_set y here = here
  at_set y (there a) = there (at_set y a)

  pub at_other : {xs : List X} {j place : ℕ} {x y : X} (z : X) → (j ≡ place → ⊥) → At xs j y → At xs place x → At (set xs j z) place x
  at_other z ne here here = absurd (ne refl)
  at_other z ne here (there b) = there b
  at_other z ne (there a) here = here
  at_other z ne (there a) (there b) = there (at_other z (λ e. ne (ap suc e)) a b)

  pub set_same : {xs : List X} {place : ℕ} {x : X} → At xs place x → set xs place x ≡ xs
  set_same here = refl
  set_same (there {y = y} a) = ap {B = List X} (λ l. y ∷ l) (set_same a)

  pub get_at : {xs : List X} {place : ℕ} {x : X} → At xs place x → slice_get xs place ≡ Some x
  get_at here = refl
  get_at (there a) = get_at a

  pub at_get : (xs : List X) (place : ℕ) {x : X} → slice_get xs place ≡ Some x → At xs place x
  at_get [] place e = absurd (none_some refl e)
  at_get (y ∷ xs) zero {x} e = let p : y ≡ x = cc in subst (λ (v : X). At (y ∷ xs) zero v) p here
  at_get (y ∷ xs) (suc place) e = there (at_get xs place e)

  -- the element at k, after a change at j
  pub at_changed : {xs : List X} {j place : ℕ} {x y : X} (z : X) (b : Bool) → eqb j place ≡ b → At xs j y → At xs place x → At (set xs j z) place (cond b z x)
  at_changed {xs} {j} {place} z true e a b = subst (λ (i : ℕ). At (set xs j z) i z) (eqb-true j place e) (at_set z a)
  at_changed {xs} {j} {place} z false e a b = at_other z (eqb-false j place e) a b

  pub at_same : {xs : List X} {j place : ℕ} {x y : X} → j ≡ place → At xs j x → At xs place y → x ≡ y
  at_same {xs} {j} {place} {x} e a b = at_one (subst (λ (i : ℕ). At xs i x) e a) b

  module _ (test : X → Bool) where
    nowhere : (xs : List X) → ((j : ℕ) (x : X) → At xs j x → test x ≡ true → ⊥) → nowhere? test xs ≡ true
    nowhere [] h = refl
    nowhere (x ∷ xs) h = rw (untrue (test x) (h 0 x here)) (nowhere xs (λ j y a. h (suc j) y (there a)))

    nowhere_not : {xs : List X} {j : ℕ} {x : X} → At xs j x → nowhere? test xs ≡ true → test x ≡ true → ⊥
    nowhere_not (here {x = x} {xs = xs}) n e = both_ways (test x) (not-true (test x) (and_parts (not (test x)) (nowhere? test xs) n).0) e
    nowhere_not (there {y = y} {xs = xs} a) n e = nowhere_not a (and_parts (not (test y)) (nowhere? test xs) n).1 e

    pub only_place_lem : {xs : List X} {place : ℕ} {x : X} → At xs place x → OnlyAt test xs place → only_place test xs ≡ Some place
    only_place_lem (here {x = x} {xs = xs}) o =
        rw (o.holds x here, nowhere xs (λ j y a e. let z : suc j ≡ 0 = o.alone (suc j) y (there a) e in omega arith))
    only_place_lem (there {y = y} {place = place} a) o =
        rw (untrue (test y) (λ e. let z : 0 ≡ suc place = o.alone 0 y here e in omega arith))
        (ap (option_map suc) (only_place_lem a (record {
          holds = λ x b. o.holds x (there b);
          alone = λ j x b e. let z : suc j ≡ suc place = o.alone (suc j) x (there b) e in omega arith;
        })))

    -- the place is that of one element where the test holds
    abbrev Found : List X → ℕ → Type 0
    Found xs place = (x : X) × At xs place x × OnlyAt test xs place

    found_first : (x : X) (xs : List X) → test x ≡ true → nowhere? test xs ≡ true → Found (x ∷ xs) 0
    found_first x xs e n = (x, here, record { holds = λ y a. subst (λ (v : X). test v ≡ true) (at_one here a) e; alone = λ j y a f. first a f })
      where
        first : {j : ℕ} {y : X} → At (x ∷ xs) j y → test y ≡ true → j ≡ 0
        first here f = refl
        first (there a) f = absurd (nowhere_not a n f)

    found_later : (x : X) (xs : List X) (place : ℕ) → test x ≡ false → Found xs place → Found (x ∷ xs) (suc place)
    found_later x xs place e f = (f.0, there f.1, record { holds = λ y a. holds a; alone = λ j y a g. alone a g })
      where
        holds : {y : X} → At (x ∷ xs) (suc place) y → test y ≡ true
        holds (there a) = f.2.holds _ a

        alone : {j : ℕ} {y : X} → At (x ∷ xs) j y → test y ≡ true → j ≡ suc place
        alone here g = absurd (both_ways (test x) e g)
        alone (there a) g = ap suc (f.2.alone _ _ a g)

    pub place_only : (xs : List X) (place : ℕ) → only_place test xs ≡ Some place → Found xs place
    place_only [] place e = absurd (none_some refl e)
    place_only (x ∷ xs) place e = go (test x) refl (nowhere? test xs) refl (only_place test xs) refl e (place_only xs)
      where
        go : (b : Bool) → test x ≡ b → (c : Bool) → nowhere? test xs ≡ c → (o : Option ℕ) → only_place test xs ≡ o
            → cond b (cond c (Some 0) None) (option_map suc o) ≡ Some place → ((j : ℕ) → only_place test xs ≡ Some j → Found xs j) → Found (x ∷ xs) place
        go true p true q o w e more = subst (Found (x ∷ xs)) (let i : ◌≡◌ {A = ℕ} 0 place = cc in i) (found_first x xs p q)
        go true p false q o w e more = absurd (none_some refl e)
        go false p c q (Some j) w e more = subst (Found (x ∷ xs)) (let i : suc j ≡ place = cc in i) (found_later x xs j p (more j w))
        go false p c q None w e more = absurd (none_some refl e)

module _ {X Y : Type 0} (f : X → Y) where
  pub at_map : {xs : List X} {place : ℕ} {x : X} → At xs place x → At (map f xs) place (f x)
  at_map here = here
  at_map (there a) = there (at_map a)

  pub map_at : (xs : List X) {place : ℕ} {y : Y} → At (map f xs) place y → (x : X) × At xs place x × (f x ≡ y)
  map_at [] a = elim a [ ]
  map_at (x ∷ xs) here = (x, here, refl)
  map_at (x ∷ xs) (there a) = let m = map_at xs a in (m.0, there m.1, m.2)

  pub only_map : (of-x : X → Bool) (of-y : Y → Bool) → ((x : X) → of-x x ≡ of-y (f x)) → {xs : List X} {place : ℕ} → OnlyAt of-x xs place ↔ OnlyAt of-y (map f xs) place
  only_map of-x of-y same {xs} = (
    λ o. record {
      holds = λ y a. let m = map_at xs a in subst (λ (v : Y). of-y v ≡ true) m.2 (sym (same m.0) ∙ o.holds m.0 m.1);
      alone = λ j y a e. let m = map_at xs a in o.alone j m.0 m.1 (same m.0 ∙ ap of-y m.2 ∙ e);
    },
    λ o. record {
      holds = λ x a. same x ∙ o.holds (f x) (at_map a);
      alone = λ j x a e. o.alone j (f x) (at_map a) (sym (same x) ∙ e);
    },
  )
