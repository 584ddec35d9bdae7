use Rattle.std.proofs.Common.{◌-◌, length, take, drop, Ok, Err, sym, ap, ◌∙◌, inl, inr, arith}
use Rattle.std.proofs.lemmas.List.{take_rest}
use Rattle.std.proofs.lemmas.Result.{err_from_is_err_and}
use Rattle.frame.specs.Check.{check_of}
use Rattle.frame.proofs.Meanings.{sent_value, sent_refused}
use Rattle.frame.proofs.reader.read.Goals as goal
use Rattle.frame.proofs.reader.read.Goals.{then-preambles-lt-MIN_PREAMBLES-via-then-preambles-lt-MIN_PREAMBLES, then-preambles-lt-MIN_PREAMBLES-via-else-preambles-lt-MIN_PREAMBLES+then-check-ne0}

pub returns-then-preambles-lt-MIN_PREAMBLES : goal.returns-then-preambles-lt-MIN_PREAMBLES
returns-then-preambles-lt-MIN_PREAMBLES c =
    let bytes = c.args.bytes.now in
    let n = c.count_preambles-preambles.ensures.value in
    sent_refused c.args.kind.short c.args.kind.long bytes (elim c.then-preambles-lt-MIN_PREAMBLES.branch [
      | then-preambles-lt-MIN_PREAMBLES-via-then-preambles-lt-MIN_PREAMBLES w ↦ inl (omega (arith, n, w.if-preambles-lt-MIN_PREAMBLES.true))
      | then-preambles-lt-MIN_PREAMBLES-via-else-preambles-lt-MIN_PREAMBLES+then-check-ne0 w ↦ inr (λ z. w.if-check-ne0.true (w.check.ensures ∙ (ap check_of (take_rest bytes c.count_preambles-preambles.result ∙ ap (λ m. drop m bytes) n) ∙ z)))
    ])

pub returns-in_err-frame : goal.returns-in_err-frame
returns-in_err-frame c =
    let bytes = c.args.bytes.now in
    let n = c.count_preambles-preambles.result in
    let p = err_from_is_err_and c.from_residual.result c.from_residual.ensures.1 in
    rw (p.1, p.2) (sent_value c.args.kind.short c.args.kind.long bytes n (take (length bytes - n) (drop n bytes)) (Err c.in_err-frame.field-0.0) c.count_preambles-preambles.ensures.value (take_rest bytes n) (omega arith) (sym c.check.ensures ∙ omega arith) c.in_err-frame.ensures)

pub returns : goal.returns
returns c =
    let bytes = c.args.bytes.now in
    let n = c.count_preambles-preambles.result in
    sent_value c.args.kind.short c.args.kind.long bytes n (take (length bytes - n) (drop n bytes)) (Ok c.in_ok-frame.frame) c.count_preambles-preambles.ensures.value (take_rest bytes n) (omega arith) (sym c.check.ensures ∙ omega arith) c.in_ok-frame.ensures
