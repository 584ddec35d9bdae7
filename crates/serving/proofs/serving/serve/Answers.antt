use Rattle.std.specs.Option.{option_map}
use Rattle.line.specs.Views.{reception}
use Rattle.serving.specs.Answering.{view_of}
use Rattle.serving.proofs.Answered.{serves, law}
use Rattle.serving.proofs.serving.serve.Goals as goal

pub returns : goal.returns
returns g c =
    let found = c.in-Some.ensures in
    let m = view_of c.in-Some.meant in
    let received = option_map reception c.args.received in
    record {
      serves = serves g.R.Rack.records g.R.Rack.wrote c.args.supply received m c.args.rack.now c.answer.new.rack c.args.out.now c.answer.new.out
          c.if-out-lt-ANSWER_ROOM.false c.answer.result found.0 found.2 c.answer.ensures;
      law = law g.R.Rack.records g.R.Rack.wrote c.args.supply received m c.args.rack.now c.answer.new.rack c.args.out.now c.answer.new.out
          c.if-out-lt-ANSWER_ROOM.false c.answer.result found.0 found.2 c.answer.ensures found.1;
    }
