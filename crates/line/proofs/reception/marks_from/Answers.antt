use Rattle.std.proofs.Common.{map, fold, sym, ap, ◌∙◌}
use lib.Bits.{bit_or}
use Rattle.std.proofs.lemmas.List.{take_rest, drop-map}
use Rattle.line.specs.Marks.{marks_number}
use Rattle.line.proofs.reception.marks_from.Goals as goal

pub returns-then-start-marks : goal.returns-then-start-marks
returns-then-start-marks c =
    let xs = c.args.marks.now in
    let n = c.args.start in
    c.together.ensures
    ∙ (ap (λ ms. fold bit_or 0 (map marks_number ms)) (take_rest xs n)
    ∙ sym (ap (fold bit_or 0) (drop-map marks_number n xs)))
