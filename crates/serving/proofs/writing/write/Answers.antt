use Rattle.std.proofs.Common.{Option, sym, subst}
use Rattle.std.specs.Option.{option_map, option_to_list}
use Rattle.rack.specs.Edits.{edit_of}
use Rattle.rack.specs.Refusals.{numbered}
use Rattle.rack.specs.declared.changes.Change.{Change}
use Rattle.serving.specs.Writing.{WritesAll}
use Rattle.serving.proofs.Chained.{all_none, all_one}
use Rattle.serving.proofs.writing.write.Goals as goal

pub returns-in-Some : goal.returns-in-Some
returns-in-Some g c =
    let records = g.R.Rack.records in
    let wrote = g.R.Rack.wrote in
    let x = c.args.rack.now in
    let y = c.write.new.self in
    let chained = all_one records wrote c.args.channel (edit_of c.in-Some.change) x y (numbered c.write.result) c.write.ensures.answer c.write.ensures.after c.write.ensures.once in
    subst (λ (o : Option Change). WritesAll records wrote c.args.channel (option_to_list (option_map edit_of o)) x y) (sym c.in-Some.is) chained

pub returns-in_default : goal.returns-in_default
returns-in_default g c =
    let records = g.R.Rack.records in
    let wrote = g.R.Rack.wrote in
    let x = c.args.rack.now in
    subst (λ (o : Option Change). WritesAll records wrote c.args.channel (option_to_list (option_map edit_of o)) x x) (sym c.in_default.is) (all_none records wrote c.args.channel x)
