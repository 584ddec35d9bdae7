use Rattle.std.proofs.Common.{List, Option}
use Rattle.std.specs.Option.{option_map, option_to_list}
use Rattle.rack.specs.Edits.{Edit, edit_of}
use Rattle.rack.specs.declared.changes.Change.{Change}
use Rattle.serving.proofs.Chained.{all_both}
use Rattle.serving.proofs.writing.write_both.Goals as goal

pub returns : goal.returns
returns g c =
    let listed : Option Change → List Edit = λ o. option_to_list (option_map edit_of o) in
    all_both g.R.Rack.records g.R.Rack.wrote c.args.channel (listed c.args.changes.field) (listed c.args.changes.flag) c.args.rack.now c.write.new.rack c.write-2.new.rack c.write.ensures c.write-2.ensures
