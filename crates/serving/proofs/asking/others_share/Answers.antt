use Rattle.std.proofs.Common.{rules}
use Rattle.std.proofs.lemmas.Result.{MatchResult-weaker}
use Rattle.serving.proofs.Writes.{others_value}
use Rattle.serving.proofs.asking.others_share.Goals as goal

pub returns : goal.returns
returns g c =
    others_value (g.R.Rack.records c.args.rack.now) c.args.channel c.map_or.result c.total_share.result c.requires c.total_share.ensures
    (MatchResult-weaker c.total_share.result c.map_or.ensures (λ sum k. search rules) (λ e k. k))
