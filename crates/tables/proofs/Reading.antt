-- The reading of hexadecimal text, one byte after another.
use Rattle.std.proofs.Common.{◌≡◌, ℕ, ◌+◌, ◌*◌, ◌<◌, List, [], length, get_or, drop, Some, None, Option, refl, arith, eq-eqb}
use Rattle.std.proofs.lemmas.List.{drop_more, at_drop_all}
use Rattle.std.specs.Option.{ok_or, option_map}
use Rattle.hexdigits.specs.Hex.{byte_of, before, bytes_of}
use Rattle.tables.specs.declared.words.WordFault.TheVariants.{NotPattern}
use Rattle.tables.specs.Words.{number_after, pattern_of, pattern_at, pattern_joined}

-- what is left, with its first two digits apart
pub pair_at : (text : List ℕ) (i : ℕ) → i * 2 + 1 < length text → bytes_of (drop (i * 2) text) ≡ before (byte_of (get_or text (i * 2) 0) (get_or text (i * 2 + 1) 0)) (bytes_of (drop ((i + 1) * 2) text))
pair_at text i h =
    let n : i * 2 + 1 + 1 ≡ (i + 1) * 2 = omega arith in
    rw (drop_more text (i * 2) 0 (omega arith), drop_more text (i * 2 + 1) 0 h, n) refl

-- eight digits are four bytes
four : (text : List ℕ) → length text ≡ 8 → bytes_of text ≡ before (byte_of (get_or text 0 0) (get_or text 1 0)) (before (byte_of (get_or text 2 0) (get_or text 3 0)) (before (byte_of (get_or text 4 0) (get_or text 5 0)) (before (byte_of (get_or text 6 0) (get_or text 7 0)) (Some []))))
four text h = rw (pair_at text 0 (omega arith), pair_at text 1 (omega arith), pair_at text 2 (omega arith), pair_at text 3 (omega arith), at_drop_all bytes_of text 8 (omega arith)) refl

told : (o : Option (List ℕ)) → ok_or (option_map (number_after 0) o) NotPattern ≡ pattern_of o
told (Some bytes) = refl
told None = refl

-- a result that was computed of them is the pattern
pub pattern_four : (text : List ℕ) → length text ≡ 8 → (first second third fourth : Option ℕ) (r : Option ℕ) → first ≡ byte_of (get_or text 0 0) (get_or text 1 0) → second ≡ byte_of (get_or text 2 0) (get_or text 3 0) → third ≡ byte_of (get_or text 4 0) (get_or text 5 0) → fourth ≡ byte_of (get_or text 6 0) (get_or text 7 0) → r ≡ pattern_joined first second third fourth → ok_or r NotPattern ≡ pattern_at text
pattern_four text h first second third fourth r e₁ e₂ e₃ e₄ e = rw (e, e₁, e₂, e₃, e₄, eq-eqb (length text) 8 h, four text h) (told _)
