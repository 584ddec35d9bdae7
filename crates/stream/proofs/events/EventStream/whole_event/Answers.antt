use Rattle.std.proofs.Common.{◌∙◌, sym, ap, refl, Ok, Some, take}
use Rattle.std.proofs.lemmas.List.{drop-drop}
use Rattle.stream.proofs.Bytes.{whole_first}
use Rattle.stream.proofs.events.EventStream.whole_event.Goals as goal

pub returns-clause-next : goal.returns-clause-next
returns-clause-next g c = λ events rest out s.
    let w = whole_first c.args.self.now.block _ _ s.left c.in_ok-event.field-0.now c.unread.result.now c.unread.ensures c.in_ok-event.ensures.cases.enough c.in_ok-event.ensures.cases.same in
    (_, s.events_are ∙ w.0, record { left = s.left; has_left = s.has_left; events_are = refl; rest_is = s.rest_is ∙ w.1; written = s.written; has_written = s.has_written; out_is = s.out_is })

pub returns-clause-whole : goal.returns-clause-whole
returns-clause-whole g c = λ long.
    let s = c.args.self.now in
    record {
      event = ap (λ e. Ok (Some e)) (c.in_ok-event.ensures.cases.same ∙ ap (take 12) c.unread.ensures);
      after = ap (λ u. record { input = s.input; output = s.output; unread = u; lines = s.lines.items }) (sym (drop-drop 12 s.unread.start (take s.unread.end s.block)));
    }
