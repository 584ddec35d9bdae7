use Rattle.std.proofs.Common.{subst}
use Rattle.frame.specs.Frames.{RequestFrame}
use Rattle.frame.specs.Views.{frame_parts}
use Rattle.line.specs.Characters.{Reception}
use Rattle.linevectors.proofs.responding.respond.Goals as goal

pub returns-clause-law : goal.returns-clause-law
returns-clause-law c =
    c.in_ok-length.ensures.law c.args.heard.span.now
    (subst (λ (x : Reception). RequestFrame x.span (frame_parts c.in-Some.frame)) c.received.ensures c.in-Some.ensures.whole.1)
