use Rattle.std.proofs.Common.{◌++◌, take, arith, rules}
use lib.Utf8.{encode}
use Rattle.std.proofs.Output.{has_written_append, has_written_of_eq}
use Rattle.hexdigits.specs.Hex.{hex_of}
use Rattle.hexdigits.proofs.Reading.{hex_more}
use Rattle.hexdigits.proofs.HexDisplay.fmt.Goals as goal

pub loop-byte-preserved : goal.loop-byte-preserved
loop-byte-preserved g c = λ plain.
    let i = c.loop-byte.byte-index in
    let before = hex_of (take i c.args.self.now.0.now) in
    let high = encode c.digit.result in
    let low = encode c.digit-in-loop-byte.result in
    let one = has_written_append _ _ before c.loop-byte.f high c.write_char.new.self (c.loop-byte.invariant plain) (search rules) in
    has_written_of_eq _ _ (before ++ high ++ low) _ _ (hex_more i c.args.self.now.0.now c.digit.result c.digit-in-loop-byte.result c.loop-byte-test.true (omega arith) c.digit.ensures c.digit-in-loop-byte.ensures)
    (has_written_append _ _ (before ++ high) c.write_char.new.self low c.write_char-in-loop-byte.new.self one (search rules))
