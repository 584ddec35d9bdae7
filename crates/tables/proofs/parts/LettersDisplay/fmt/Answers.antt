use Rattle.std.proofs.Common.{ℕ, List, ◌≡◌, ◌+◌, ◌<◌, ◌++◌, length, get_or, take, rules}
use lib.Utf8.{encode}
use Rattle.std.proofs.Output.{has_written_append, has_written_of_eq}
use Rattle.std.proofs.lemmas.List.{take_more, append-nil}
use Rattle.std.proofs.lemmas.Str.{encodes-append}
use Rattle.std.specs.Str.{encode_utf8_all}
use Rattle.tables.proofs.parts.LettersDisplay.fmt.Goals as goal

one_more : (letters : List ℕ) (i c : ℕ) → i < length letters → c ≡ get_or letters i 0 → encode_utf8_all (take i letters) ++ encode c ≡ encode_utf8_all (take (i + 1) letters)
one_more letters i c h e = rw (e, take_more letters i 0 h, encodes-append, append-nil)

pub loop-letter-preserved : goal.loop-letter-preserved
loop-letter-preserved g c = λ plain.
    has_written_of_eq _ _ _ _ _ (one_more c.args.self.now.0.now c.loop-letter.letter-index c.from.result c.loop-letter-test.true c.from.ensures)
    (has_written_append _ _ _ _ _ _ (c.loop-letter.invariant plain) (search rules))
