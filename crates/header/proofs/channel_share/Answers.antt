use Rattle.std.proofs.Common.{rules}
use Rattle.std.proofs.lemmas.Result.{MatchResult-weaker}
use Rattle.rack.specs.Meaning.{channel_of}
use Rattle.rack.proofs.Meaning.{channel_lawful}
use Rattle.header.proofs.Shares.{told_share}
use Rattle.header.proofs.channel_share.Goals as goal

pub returns : goal.returns
returns g c =
    let records = g.R.Rack.records c.args.rack.now in
    let o = channel_of records c.args.channel in
    let s = told_share o (λ r e. channel_lawful records c.args.channel r (g.met.R.Rack.lawful c.args.rack.now) e) c.fields.result c.fields.ensures c.map_or.result (MatchResult-weaker c.fields.result c.map_or.ensures (λ f k. search rules) (λ e k. k)) in
    record { value = s.0; bound = s.1 }
