use Rattle.std.proofs.Common.{refl}
use Rattle.rack.specs.Edits.{edit_of}
use Rattle.panel.proofs.Locals.{misses, operated, not_written}
use Rattle.panel.proofs.Panels.{same_panel}
use Rattle.panel.proofs.state.Panel.operate.Goals as goal

pub returns-then-is_none-clause-operates : goal.returns-then-is_none-clause-operates
returns-then-is_none-clause-operates g c = misses c.args.self.now c.args.channel (edit_of c.args.change) c.if-is_none.ensures

pub returns-clause-operates : goal.returns-clause-operates
returns-clause-operates g c =
    operated c.args.self.now _ c.args.channel c.write.result c.map_err.result refl refl c.if-is_none.ensures c.map_err.ensures.cases (edit_of c.args.change) c.write.ensures.answer c.write.ensures.after c.write.ensures.once

pub returns-clause-same : goal.returns-clause-same
returns-clause-same g c = λ e. same_panel c.args.self.now c.write.new.self _ (c.write.ensures.same (not_written c.write.result c.map_err.result c.map_err.ensures.cases e))
