use Rattle.std.proofs.Common.{◌<◌, length, ap, refl, ◌∙◌, vec_items, inl, inr, arith}
use Rattle.stream.specs.Streams.{unread_of, view_of, unread, written, NoneLost, one, end}
use Rattle.stream.proofs.Views.{none_lost, written_stays, none_or_more, on_err}
use Rattle.stream.proofs.events.EventStream.next_event.Goals as goal

pub returns-in-Some-clause-next : goal.returns-in-Some-clause-next
returns-in-Some-clause-next g c = λ events rest out s. let k = c.in-Some.ensures.next events rest out (c.loop.invariant.2 events rest out s) in one k.1 k.2

pub returns-in-Some-clause-first : goal.returns-in-Some-clause-first
returns-in-Some-clause-first g c = elim (none_or_more c.loop.counter) [
  | inl z ↦ let same = c.loop.invariant.3 z in unread (c.in-Some.ensures.input ∙ ap (λ s. s.input) same) (ap vec_items (c.in-Some.ensures.lines ∙ ap (λ s. s.lines) same))
  | inr m ↦ written (written_stays g.R.Read.remaining g.W.Write.contents c.in-Some.ensures.output (ap vec_items c.in-Some.ensures.lines) (c.loop.invariant.4 m).1)
]

pub returns-in_err-read_on-clause-kept : goal.returns-in_err-read_on-clause-kept
returns-in_err-read_on-clause-kept g c =
    let few : length (unread_of c.whole_event.new.self) < 12 = c.in_default.ensures.none refl in
    let before = view_of c.args.self.now in
    let after = view_of c.read_on.new.self in
    on_err c.from_residual.result (NoneLost g.R.Read.remaining before after)
    (none_lost g.R.Read.remaining g.W.Write.contents before (view_of c.loop.self) after c.loop.invariant.5 (rw (← c.in_default.ensures.kept refl) (c.in_err-read_on.ensures.kept few)))

pub returns-then-not-branch-clause-next : goal.returns-then-not-branch-clause-next
returns-then-not-branch-clause-next g c = λ events rest out s.
    let k = c.in_default.ensures.next events rest out (c.loop.invariant.2 events rest out s) in
    let f = c.in_ok-read_on.ensures.read (c.in_default.ensures.none refl) k.0 rest out k.2 in
    rw k.1 (end f.0 (f.1 c.if-not-branch.true))

-- with 12 bytes unread there is an event
pub unreachable-requires : goal.unreachable-requires
unreachable-requires g c = absurd (omega (arith, c.loop-test.false, c.loop.invariant.0))
