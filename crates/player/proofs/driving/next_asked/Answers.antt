use Rattle.std.proofs.Common.{◌+◌, suc, Ok, Err, refl, arith}
use Rattle.refusals.specs.Refusals.{number_of}
use Rattle.recording.specs.Events.{asked_of}
use Rattle.recording.specs.Lines.{refusal_line}
use Rattle.stream.specs.Streams.{view_of}
use Rattle.player.specs.Outputs.{lines_of, lines_after}
use Rattle.player.proofs.Printing.{fewer, at_end, at_event, line_printed}
use Rattle.player.proofs.driving.next_asked.Goals as goal

pub returns-in_default : goal.returns-in_default
returns-in_default g c = λ s taken most total p.
    let l = c.loop.invariant s taken most total p in
    at_end g.R.Read.remaining g.W.Write.contents c.args.format s (c.loop.counter + taken) most total l (rw c.in_default.is at (c.in_ok-event.ensures.next l.events l.rest l.out l.streams))

pub returns-in-Ok : goal.returns-in-Ok
returns-in-Ok g c = λ s taken most total p.
    let l = c.loop.invariant s taken most total p in
    let asked = Ok (asked_of c.in-Ok.asked) in
    fewer g.R.Read.remaining g.W.Write.contents (lines_after c.args.format s asked) (suc taken) (suc (c.loop.counter + taken)) most total (omega arith)
    (at_event g.R.Read.remaining g.W.Write.contents c.args.format s (c.loop.counter + taken) most total l c.in-Some.event asked c.in-Ok.ensures (rw c.in-Some.is at (c.in_ok-event.ensures.next l.events l.rest l.out l.streams)))

pub loop-preserved : goal.loop-preserved
loop-preserved g c = λ s taken most total p.
    let l = c.loop.invariant s taken most total p in
    let k = suc (c.loop.counter + taken) in
    fewer g.R.Read.remaining g.W.Write.contents (lines_of c.args.format s) (c.loop.counter + 1 + taken) k most total (omega arith)
    (line_printed g.R.Read.remaining g.W.Write.contents (view_of c.next_event.new.self) (view_of c.tell.new.self) _ (refusal_line (number_of c.in-Err.refusal)) (lines_of c.args.format s) k most total c.in_ok-tell-in-Err.ensures.told refl
    (at_event g.R.Read.remaining g.W.Write.contents c.args.format s (c.loop.counter + taken) most total l c.in-Some.event (Err (number_of c.in-Err.refusal)) c.in-Err.ensures (rw c.in-Some.is at (c.in_ok-event.ensures.next l.events l.rest l.out l.streams))))

-- an event was taken at each turn
pub returns : goal.returns
returns g c = λ s taken most total p. let l = c.loop.invariant s taken most total p in omega (arith, l.few, c.loop-test.false)
