use Rattle.std.proofs.Common.{◌∙◌, ap}
use Rattle.frame.specs.Views.{frame_parts}
use Rattle.line.specs.Views.{judged}
use Rattle.line.proofs.Answering.{answers_by}
use Rattle.line.proofs.replying.reply.Goals as goal

pub returns-clause-law : goal.returns-clause-law
returns-clause-law g c =
    let r = g.S.ReplySource.channel_record c.args.source.now in
    let lawful = g.met.S.ReplySource.lawful c.args.source.now in
    answers_by (frame_parts c.args.frame) (judged c.args.judgement) r c.from.result c.as_slice.result.now c.args.out.now c.make_reply.new.out c.make_reply.result
    (c.from.ensures ∙ ap (λ f. f.preambles) c.fields-fields.ensures) (c.as_slice.ensures.value ∙ c.content-content.ensures) lawful.preambles.1 c.as_slice.ensures.fits c.make_reply.ensures.fills c.make_reply.ensures.sound
