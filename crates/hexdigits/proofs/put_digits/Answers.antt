use Rattle.std.proofs.Common.{◌≡◌, ℕ, ◌+◌, ◌*◌, ◌<◌, List, [], ◌∷◌, ◌++◌, length, take, slice_set, refl, ap, ◌∙◌, length-set, arith}
use Rattle.std.proofs.lemmas.Grind.{take-set_at}
use Rattle.std.proofs.lemmas.List.{take_all}
use Rattle.hexdigits.specs.Hex.{hex_of}
use Rattle.hexdigits.proofs.Reading.{hex_pushed}
use Rattle.hexdigits.proofs.put_digits.Goals as goal

-- two digits more stand behind the first 2 * i
two_more : (digits : List ℕ) (i a b : ℕ) → 2 * i + 1 < length digits → take (2 * (i + 1)) (slice_set (slice_set digits (2 * i) a) (2 * i + 1) b) ≡ (take (2 * i) digits ++ (a ∷ [])) ++ (b ∷ [])
two_more digits i a b h =
    take-set_at (slice_set digits (2 * i) a) (2 * i + 1) (2 * (i + 1)) b (omega arith) (omega (arith, length-set digits (2 * i) a))
    ∙ ap (λ l. l ++ (b ∷ [])) (take-set_at digits (2 * i) (2 * i + 1) a (omega arith) (omega arith))

pub loop-i-init : goal.loop-i-init
loop-i-init c = (refl, c.told-digits)

pub loop-i-preserved : goal.loop-i-preserved
loop-i-preserved c =
    let i = c.loop-i.i in
    let digits = c.loop-i.digits in
    let part = c.args.part.now in
    let high = c.digit.result in
    let low = c.digit-in-loop-i.result in
    let long = c.loop-i.invariant.1 in (
      two_more digits i high low (omega (arith, long, c.requires, c.loop-i-test.true)) ∙ (ap (λ l. (l ++ (high ∷ [])) ++ (low ∷ [])) c.loop-i.invariant.0 ∙ hex_pushed i part high low c.loop-i-test.true c.digit.ensures c.digit-in-loop-i.ensures),
      length-set (slice_set digits (2 * i) high) (2 * i + 1) low ∙ (length-set digits (2 * i) high ∙ long),
    )

pub returns : goal.returns
returns c =
    let n = length c.args.part.now in
    let last : c.loop-i.i ≡ n = omega (arith, c.loop-i.auto.i-end, c.loop-i-test.false) in
    rw last at c.loop-i.invariant.0 ∙ ap hex_of (take_all n c.args.part.now (omega arith))
