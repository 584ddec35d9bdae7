-- A list worked through in groups of one size.
use Rattle.std.specs.Prelude.{ℕ, zero, suc, ◌/◌, List, [], ◌++◌, length, take, drop}

-- f of each of the first n groups of w elements, the results one after another
abbrev pub grouped : ℕ → ℕ → (List ℕ → List ℕ) → List ℕ → List ℕ
grouped zero w f xs = []
grouped (suc n) w f xs = f (take w xs) ++ grouped n w f (drop w xs)

-- f of each whole group of w elements
abbrev pub in_groups : ℕ → (List ℕ → List ℕ) → List ℕ → List ℕ
in_groups w f xs = grouped (length xs / w) w f xs
