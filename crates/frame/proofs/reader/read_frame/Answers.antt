use Rattle.std.proofs.Common.{◌<◌, arith}
use Rattle.std.proofs.ByRecursion.{All-from_get_or}
use Rattle.frame.proofs.Meanings.{frame_means, frame_limit}
use Rattle.frame.proofs.reader.read_frame.Goals as goal

pub returns : goal.returns
returns c =
    let span = c.args.span.now in
    let value = c.frame_in.ensures in
    record {
      value = value;
      means = frame_means c.frame_in.result span value;
      limit = frame_limit c.frame_in.result span (All-from_get_or (λ b. b < 256) span 0 (λ i _. omega (arith, c.type_inv.span i))) value;
    }
