use Rattle.std.proofs.Common.{refl}
use Rattle.frame.specs.Frames.{short_reply, long_reply}
use Rattle.frame.proofs.Meanings.{sent_means}
use Rattle.frame.proofs.reader.read_reply.Goals as goal

pub returns : goal.returns
returns c = record {
  value = c.read.ensures;
  means = sent_means short_reply long_reply refl refl refl c.read.result c.args.bytes.now c.read.ensures;
}
