use Rattle.std.proofs.Common.{ℕ, ◌<◌, List, ◌%◌, ◌/◌, ◌≡◌, ap, sym, ◌∙◌, length, vec_items, arith, false-eqb, true-eqb}
use Rattle.std.proofs.lemmas.Result.{err_from_is_err_and}
use Rattle.std.specs.Simd.{first_chunks}
use Rattle.hexdigits.specs.Hex.{bytes_of}
use Rattle.hexdigits.proofs.Reading.{in_pairs, pairs_read, odd, at_none, at_end, refused, fault_told}
use Rattle.hexdigits.proofs.parse_hex.Goals as goal

-- a text of an even length is read in pairs
even : (text : List ℕ) (pairs : List (List ℕ)) → length text % 2 ≡ 0 → pairs ≡ first_chunks 2 (length text / 2) text → in_pairs pairs ≡ bytes_of text
even text pairs h e = ap in_pairs e ∙ pairs_read (length text / 2) text (omega arith)

pub returns-then-not-is_empty : goal.returns-then-not-is_empty
returns-then-not-is_empty c = odd c.args.text.now (λ e. false-eqb (length c.as_chunks.result.1.now) 0 c.if-not-is_empty.ensures (c.as_chunks.ensures.back_len ∙ e))

pub returns-in_err-ok_or : goal.returns-in_err-ok_or
returns-in_err-ok_or c =
    let p = err_from_is_err_and c.from_residual.result c.from_residual.ensures.1 in
    let r = refused c.byte.result c.in_err-ok_or.field-0.0 c.in_err-ok_or.ensures.value in
    let e = even c.args.text.now c.as_chunks.result.0.now (sym c.as_chunks.ensures.back_len ∙ true-eqb (length c.as_chunks.result.1.now) 0 c.if-not-is_empty.ensures) c.as_chunks.ensures.front in
    rw (p.1, p.2, r.1) (sym e ∙ at_none c.as_chunks.result.0.now (vec_items c.loop-pair.bytes) c.loop-pair.pair-index c.loop-pair.invariant c.loop-pair-test.true (sym c.byte.ensures ∙ r.0))

pub returns : goal.returns
returns c = sym (even c.args.text.now c.as_chunks.result.0.now (sym c.as_chunks.ensures.back_len ∙ true-eqb (length c.as_chunks.result.1.now) 0 c.if-not-is_empty.ensures) c.as_chunks.ensures.front) ∙ at_end c.as_chunks.result.0.now _ c.loop-pair.pair-index c.loop-pair.invariant (omega arith)

pub returns-in_default : goal.returns-in_default
returns-in_default c =
    let e = even c.args.text.now c.as_chunks.result.0.now (sym c.as_chunks.ensures.back_len ∙ true-eqb (length c.as_chunks.result.1.now) 0 c.if-not-is_empty.ensures) c.as_chunks.ensures.front in
    fault_told c.as_chunks.result.0.now c.args.text.now c.not_kept.result c.not_kept.ensures e (omega arith)
