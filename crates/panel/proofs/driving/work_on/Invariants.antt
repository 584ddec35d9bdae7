use Rattle.std.proofs.Common.{◌≡◌, ◌≤◌, length}
use Rattle.runs.specs.Channel.{flow_channel}
use Rattle.runs.specs.Traces.{Trace}
use Rattle.panel.specs.Working.{Drives, DoesAll, WentOn, buffer_after}
use Rattle.panel.proofs.driving.work_on.Given as goal

-- the run goes on by the calls till now, as many as there were turns
abbrev pub invariant-loop : goal.invariant-loop
invariant-loop g l =
    (trace : Trace flow_channel) × (Drives g.D.Driver.names g.D.Driver.hears (length l.fn.buffer) l.fn.driver trace l.driver) × (l.counter ≤ length trace) × (l.buffer ≡ buffer_after trace l.fn.buffer)
    × WentOn l.fn.panel l.panel trace × DoesAll l.fn.panel trace l.panel
