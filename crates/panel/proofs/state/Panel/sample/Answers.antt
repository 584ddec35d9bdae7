use Rattle.std.proofs.Common.{refl}
use Rattle.runs.specs.Channel.{sample}
use Rattle.panel.proofs.Working.{goes_on}
use Rattle.panel.proofs.state.Panel.sample.Goals as goal

pub returns : goal.returns
returns g c =
    let o = c.operate.ensures.operates (sample c.args.reading) refl in
    record { does = o.does; on = goes_on o.does; once = o.once; same = c.operate.ensures.same }
