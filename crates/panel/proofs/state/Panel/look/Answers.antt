use Rattle.std.proofs.Common.{sym, arith}
use Rattle.std.proofs.lemmas.Result.{err_from_is_err_and}
use Rattle.panel.specs.Panels.{records_in}
use Rattle.panel.proofs.Places.{looked, missing, short, filled}
use Rattle.panel.proofs.state.Panel.look.Goals as goal

pub returns-in_err-record : goal.returns-in_err-record
returns-in_err-record g c =
    let p = c.args.self.now in
    let e = err_from_is_err_and c.from_residual.result c.from_residual.ensures.1 in
    let l = looked p.supply (records_in p) c.args.channel p.few c.if-is_none.ensures c.record_of.result c.record_of.ensures (missing {buffer = c.args.out.now} c.record_of.result c.in_err-record.field-0.0 c.in_err-record.ensures.value) in
    record { answer = rw (e.1, e.2) l.answer; buffer = l.leaves }

pub returns-in_err-front : goal.returns-in_err-front
returns-in_err-front g c =
    let p = c.args.self.now in
    let e = err_from_is_err_and c.from_residual-in_err-front.result c.from_residual-in_err-front.ensures.1 in
    let l = looked p.supply (records_in p) c.args.channel p.few c.if-is_none.ensures c.record_of.result c.record_of.ensures
    (short {buffer = c.args.out.now} c.record_of.result c.in_ok-record.«record» c.in_ok-record.ensures.value _ c.first_chunk_mut.result c.in_err-front.field-0.0 c.first_chunk_mut.ensures.cases c.in_err-front.ensures.value) in
    record { answer = rw (e.1, e.2) l.answer; buffer = l.leaves }

pub returns : goal.returns
returns g c =
    let p = c.args.self.now in
    let room = c.first_chunk_mut.ensures.variant.0 (sym c.in_ok-front.ensures.variant) in
    let l = looked p.supply (records_in p) c.args.channel p.few c.if-is_none.ensures c.record_of.result c.record_of.ensures
    (filled {buffer = c.args.out.now} c.record_of.result c.in_ok-record.«record» c.in_ok-record.ensures.value room (omega arith) c.encode.ensures.value) in
    record { answer = l.answer; buffer = l.leaves }
