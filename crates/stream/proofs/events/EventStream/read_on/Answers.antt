use Rattle.std.proofs.Common.{◌≡◌, ◌<◌, ℕ, zero, List, ◌-◌, ◌++◌, take, drop, length, vec_items, sym, ap, ◌∙◌, append-nil, arith}
use Rattle.recording.specs.Recordings.{events_of, rest_of}
use Rattle.stream.specs.Streams.{unread_of, view_of}
use Rattle.stream.proofs.events.EventStream.read_on.Goals as goal
use Rattle.stream.proofs.Bytes.{consumed, at_end, none_came, read_behind, read_more, none_left, unread_kept, kept_known, same_bytes}
use Rattle.stream.proofs.Views.{lines_written}

pub returns-in_err-write_out-clause-kept : goal.returns-in_err-write_out-clause-kept
returns-in_err-write_out-clause-kept g c = λ short left e. (left, ap g.R.Read.remaining c.in_err-write_out.ensures.input ∙ e, ap (λ l. l ++ left) c.in_err-write_out.ensures.unread)

pub returns-in_err-came-clause-kept : goal.returns-in_err-came-clause-kept
returns-in_err-came-clause-kept g c = λ short left e.
    let ready = c.make_room.new.self in
    let few : length (unread_of c.write_out.new.self) < 12 = omega (arith, short, ap length c.in_ok-write_out.ensures.unread) in
    let same = c.make_room.ensures.unread few ∙ c.in_ok-write_out.ensures.unread in
    let stays = unread_kept ready.block c.read.new.buf (drop (65532 - ready.unread.end) (drop ready.unread.end ready.block)) ready.unread.start ready.unread.end (omega (arith, ready.within, ready.size)) in (
      left,
      kept_known _ _ left (ap g.R.Read.remaining (c.make_room.ensures.input ∙ c.in_ok-write_out.ensures.input) ∙ e) c.in_err-came.ensures.bytes,
      ap (λ l. l ++ left) (stays ∙ same),
    )

pub returns-clause-read : goal.returns-clause-read
returns-clause-read g c = λ short events rest out s.
    let old = c.write_out.new.self in
    let m = lines_written g.R.Read.remaining g.W.Write.contents (view_of c.args.self.now) (view_of old) events rest out c.in_ok-write_out.ensures.input c.in_ok-write_out.ensures.unread c.in_ok-write_out.ensures.written s in
    let ready = c.make_room.new.self in
    let buf : List ℕ = c.read.new.buf in
    let few : length (unread_of old) < 12 = omega (arith, short, ap length c.in_ok-write_out.ensures.unread) in
    let same : unread_of ready ≡ unread_of old = c.make_room.ensures.unread few in
    let k = consumed _ _ _ _ (ap g.R.Read.remaining c.make_room.ensures.input ∙ m.has_left) c.in_ok-came.ensures.bytes.0 in
    let behind = read_behind ready.block buf (drop (65532 - ready.unread.end) (drop ready.unread.end ready.block)) ready.unread.start ready.unread.end c.in_ok-came.came ready.ordered (omega (arith, ready.within, ready.size)) c.in_ok-came.ensures.bound.0 ∙ ap (λ l. l ++ take c.in_ok-came.came buf) same in
    let e = read_more events_of events (unread_of old) _ _ _ k.0 k.2 behind m.events_are in
    let r = read_more rest_of rest (unread_of old) _ _ _ k.0 k.2 behind m.rest_is in (
      record { left = k.0; has_left = k.1; events_are = e; rest_is = r; written = m.written; has_written = ap g.W.Write.contents c.make_room.ensures.output ∙ m.has_written; out_is = m.out_is ∙ ap (λ v. m.written ++ vec_items v) (sym c.make_room.ensures.lines) },
      λ h.
          let none : c.in_ok-came.came ≡ zero = none_came _ h in
          let stays = behind ∙ (ap (λ n. unread_of old ++ take n buf) none ∙ append-nil (unread_of old)) in
          let over = at_end _ _ k.1 (c.in_ok-came.ensures.bytes.1 none (omega (arith, c.make_room.ensures.room, c.read.auto.buf, ready.size))) in
          let f = none_left _ k.0 (omega (arith, few, ap length stays)) over in
          record { none = e ∙ f.0; left_over = r ∙ f.1 },
    )

pub returns-clause-kept : goal.returns-clause-kept
returns-clause-kept g c = λ short left e.
    let ready = c.make_room.new.self in
    let buf : List ℕ = c.read.new.buf in
    let few : length (unread_of c.write_out.new.self) < 12 = omega (arith, short, ap length c.in_ok-write_out.ensures.unread) in
    let k = consumed _ _ _ _ (ap g.R.Read.remaining (c.make_room.ensures.input ∙ c.in_ok-write_out.ensures.input) ∙ e) c.in_ok-came.ensures.bytes.0 in
    let behind = read_behind ready.block buf (drop (65532 - ready.unread.end) (drop ready.unread.end ready.block)) ready.unread.start ready.unread.end c.in_ok-came.came ready.ordered (omega (arith, ready.within, ready.size)) c.in_ok-came.ensures.bound.0
    ∙ ap (λ l. l ++ take c.in_ok-came.came buf) (c.make_room.ensures.unread few ∙ c.in_ok-write_out.ensures.unread) in
    (k.0, k.1, same_bytes (unread_of c.args.self.now) _ left _ k.0 k.2 behind)
