use Rattle.std.proofs.Common.{◌<◌, refl, arith}
use Rattle.std.proofs.ByRecursion.{All-from_get_or}
use Rattle.frame.specs.Frames.{short_request, long_request}
use Rattle.frame.proofs.Meanings.{sent_means, request_again}
use Rattle.frame.proofs.reader.read_request.Goals as goal

pub returns : goal.returns
returns c =
    let bytes = c.args.bytes.now in
    let value = c.read.ensures in
    record {
      value = value;
      means = sent_means short_request long_request refl refl refl c.read.result bytes value;
      again = request_again c.read.result bytes (All-from_get_or (λ b. b < 256) bytes 0 (λ i _. omega (arith, c.type_inv.bytes i))) value;
    }
