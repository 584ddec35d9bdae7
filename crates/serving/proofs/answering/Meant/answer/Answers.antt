use Rattle.serving.specs.Answering.{view_of}
use Rattle.serving.proofs.Answered.{asked_there, answered}
use Rattle.serving.proofs.answering.Meant.answer.Goals as goal

pub invariant_of-asked : goal.invariant_of-asked
invariant_of-asked g c =
    record { there = asked_there g.R.Rack.records g.R.Rack.wrote (view_of c.args.self) c.carry_out-fields.result c.args.rack.now c.carry_out-fields.new.rack c.requires.ready c.carry_out-fields.ensures }

pub returns : goal.returns
returns g c =
    answered g.R.Rack.records g.R.Rack.wrote (view_of c.args.self) c.carry_out-fields.result c.args.rack.now c.carry_out-fields.new.rack c.requires.ready c.carry_out-fields.ensures
    c.args.out.now c.reply.new.out c.reply.result c.in_ok-length.length c.requires.room c.reply.ensures.fills c.reply.ensures.short c.in_ok-length.ensures.law c.in_ok-length.was
