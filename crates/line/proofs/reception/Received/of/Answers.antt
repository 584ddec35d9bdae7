use Rattle.std.proofs.Common.{◌≡◌, ℕ, ◌-◌, List, length, map, take, drop, fold, refl, sym, ap, ◌∙◌}
use lib.Bits.{bit_or}
use Rattle.std.proofs.lemmas.List.{take_rest}
use Rattle.frame.specs.Transmissions.{preambles_of}
use Rattle.line.specs.Characters.{Reception, KeepsThese, bytes_in, reception_of, received, enough}
use Rattle.line.specs.Marks.{marks_number}
use Rattle.line.proofs.reception.Received.of.Goals as goal

kept : (bytes marks span : List ℕ) (n m : ℕ) → n ≡ preambles_of bytes → span ≡ drop n bytes → m ≡ fold bit_or 0 (drop n marks)
    → record { preambles = n; span = span; marks = m } ≡ reception_of bytes marks
kept bytes marks span n m e s k = rw (s, k, e) refl

-- what is made of bytes and marks is kept of any characters that have them
keeps_these : (x : Reception) (bytes marks : List ℕ) → x ≡ reception_of bytes marks → KeepsThese x bytes marks
keeps_these x bytes marks e t b m =
    let f : x ≡ received t = e ∙ (ap (λ bs. reception_of bs marks) (sym b) ∙ ap (reception_of (bytes_in t)) (sym m)) in
    record {
      preambles = ap (λ (y : Reception). enough y.preambles) f;
      span = ap (λ (y : Reception). y.span) f;
      marks = ap (λ (y : Reception). y.marks) f;
    }

pub returns-clause-value : goal.returns-clause-value
returns-clause-value c =
    let bytes = c.args.bytes.now in
    let n = c.count_preambles-preambles.result in
    kept bytes (map marks_number c.args.marks.now) (take (length bytes - n) (drop n bytes)) n (marks_number c.marks_from.result)
    c.count_preambles-preambles.ensures.value (take_rest bytes n) c.marks_from.ensures

pub returns-clause-keeps : goal.returns-clause-keeps
returns-clause-keeps c =
    keeps_these _ c.args.bytes.now (map marks_number c.args.marks.now) (returns-clause-value c)
