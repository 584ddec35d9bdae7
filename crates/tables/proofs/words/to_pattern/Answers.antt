use Rattle.std.proofs.Common.{ap, ◌∙◌, arith, ltb-false, ltb-true}
use Rattle.tables.specs.Words.{pattern_at}
use Rattle.tables.proofs.Reading.{pattern_four}
use Rattle.tables.proofs.words.to_pattern.Goals as goal

pub returns-in-len8 : goal.returns-in-len8
returns-in-len8 c =
    c.ok_or.ensures.value
    ∙ (pattern_four c.as_bytes.result.now (omega (arith, ltb-true, ltb-false)) c.byte.result c.byte-in-len8.result c.byte-in-len8-2.result c.byte-in-len8-3.result c.joined.result c.byte.ensures c.byte-in-len8.ensures c.byte-in-len8-2.ensures c.byte-in-len8-3.ensures c.joined.ensures
    ∙ ap pattern_at c.as_bytes.ensures.value)
