use Rattle.panel.specs.Panels.{channel_in, channels_in}
use Rattle.panel.proofs.Alone.{compared}
use Rattle.panel.proofs.isolation.compare.Goals as goal

pub returns-then-is_none : goal.returns-then-is_none
returns-then-is_none g c =
    compared (channel_in c.args.panel.now c.args.channel) (channels_in c.args.lone.now) c.in-Some.«record» c.in-Some-record_bytes.only c.record_bytes-3.result c.eq.result c.in-Some.ensures c.in-Some-record_bytes.ensures c.record_bytes-3.ensures c.if-is_none.ensures c.eq.ensures
