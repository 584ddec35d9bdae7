use Rattle.std.proofs.Common.{◌≡◌, ℕ, List, ◌++◌, length, take, sym, ap, ◌∙◌, append_assoc, arith}
use Rattle.std.proofs.lemmas.List.{length-take, take-append-le, take-append-drop}
use Rattle.hexdigits.specs.Hex.{hex_of}
use Rattle.hexdigits.proofs.Reading.{hex_parts}
use Rattle.hexdigits.proofs.push_parts.Goals as goal

-- a part more: its digits stand behind the text, before those of the rest
more : (text front back rest all : List ℕ) → front ++ back ≡ rest → text ++ hex_of rest ≡ all → (text ++ hex_of front) ++ hex_of back ≡ all
more text front back rest all e inv = append_assoc text (hex_of front) (hex_of back) ∙ (ap (λ l. text ++ l) (sym (hex_parts front back) ∙ ap hex_of e) ∙ inv)

-- what stood there first stands in front still
kept : (old text part : List ℕ) → take (length old) text ≡ old → take (length old) (text ++ part) ≡ old
kept old text part e = take-append-le (length old) text part (omega (arith, length-take (length old) text, ap length e)) ∙ e

pub loop-rest-preserved : goal.loop-rest-preserved
loop-rest-preserved c =
    let text = c.loop-rest.text.items in
    let rest = c.loop-rest.rest.now in
    let front = c.split_at.result.0.now in
    let back = c.split_at.result.1.now in
    let whole : front ++ back ≡ rest = ap (λ l. l ++ back) c.split_at.ensures.front ∙ (ap (λ l. take c.min.result rest ++ l) c.split_at.ensures.back ∙ take-append-drop c.min.result rest) in
    let after = c.in_ok-extend_from_slice.ensures.items ∙ ap (λ l. text ++ l) c.put_digits.ensures in
    rw after (more text front back rest _ whole c.loop-rest.invariant.0, kept c.args.text.now.items text (hex_of front) c.loop-rest.invariant.1)
