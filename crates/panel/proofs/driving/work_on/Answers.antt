use Rattle.std.proofs.Common.{[], ◌∷◌, ◌++◌, sym, ap, ◌∙◌, subst, append_assoc, append-nil, arith, length, length-append, inl, inr, refl}
use Rattle.calls.specs.Views.{call_of}
use Rattle.runs.specs.Channel.{flow_channel}
use Rattle.runs.specs.Traces.{Trace, ◌▸◌}
use Rattle.panel.specs.Working.{begins, goes, none, more, within, Underway}
use Rattle.panel.specs.Panels.{buffer_of}
use Rattle.panel.proofs.Working.{goes_on, buffer_more}
use Rattle.panel.proofs.driving.work_on.Goals as goal

pub loop-init : goal.loop-init
loop-init g c = ([], begins, omega arith, refl, λ supply before earlier u. subst (λ (h : Trace flow_channel). Underway supply before h c.args.panel.now) (sym (append-nil earlier)) u, none)

pub loop-preserved : goal.loop-preserved
loop-preserved g c =
    let l = c.loop.invariant in
    let named = within (length c.args.buffer.now) (call_of c.in-Some.call) in
    let made = rw c.loop.auto.buffer at c.perform.ensures in
    let event = named ▸ made.result in (
      l.0 ++ (event ∷ []),
      goes l.1 c.in-Some.ensures made.heard,
      omega (arith, length-append l.0 (event ∷ [])),
      made.left ∙ (ap (buffer_of made.result) l.3 ∙ sym (buffer_more l.0 event c.args.buffer.now)),
      λ supply before earlier u. subst (λ (h : Trace flow_channel). Underway supply before h c.perform.new.panel) (append_assoc earlier l.0 (event ∷ [])) (goes_on made.does supply before (earlier ++ l.0) (l.4 supply before earlier u)),
      more l.5 made.does made.through,
    )

-- as many calls as a run may have
pub returns : goal.returns
returns g c =
    let l = c.loop.invariant in
    record { trace = l.0; driven = record { last = c.loop.driver; drives = l.1; ended = inr (omega (arith, c.loop-test.false), refl) }; left = l.3; done = l.5; underway = l.4 }

-- the driver ended the run
pub returns-in_default : goal.returns-in_default
returns-in_default g c =
    let l = c.loop.invariant in
    record { trace = l.0; driven = record { last = c.loop.driver; drives = l.1; ended = inl c.in_default.ensures }; left = l.3; done = l.5; underway = l.4 }
