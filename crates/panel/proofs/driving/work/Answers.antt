use Rattle.std.proofs.Common.{[]}
use Rattle.panel.proofs.driving.work.Goals as goal

pub returns-clause-worked : goal.returns-clause-worked
returns-clause-worked g c =
    let w = c.work_on.ensures in
    record { trace = w.trace; begun = c.set_up.new.self; same_rack = c.in_ok-set_up.ensures.rack; done = w.done; driven = w.driven; left = w.left; underway = w.underway c.args.supply _ [] c.in_ok-set_up.ensures.underway }
