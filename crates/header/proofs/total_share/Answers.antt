use Rattle.std.proofs.Common.{rules, ◌+◌, ◌^◌, Ok, ap, ◌∙◌, arith}
use Rattle.std.proofs.lemmas.Iterator.{YieldsList-from_range, YieldsList-from_map}
use Rattle.std.proofs.lemmas.Iterator.Adapters.{fits_from_length, at_most_from_yields_List, total_from_yields_List}
use Rattle.std.proofs.lemmas.List.FromFn.{length-range_with_len}
use Rattle.std.proofs.lemmas.List.Sums.{sum-map}
use Rattle.std.specs.List.{range_with_len}
use Rattle.header.specs.Shares.{share_at}
use Rattle.header.proofs.Shares.{total_is}
use Rattle.header.proofs.total_share.Goals as goal

pub sum-requires-clause-fits : goal.sum-requires-clause-fits
sum-requires-clause-fits g c =
    let n = c.count-count.result in
    fits_from_length _ _ 15 (2 ^ 64) (at_most_from_yields_List (YieldsList-from_range 0 n n c.map.ensures.source (omega arith)) (omega (arith, length-range_with_len 0 n))) c.map.ensures.closure (omega arith) (λ x r q k. search rules)

pub returns : goal.returns
returns g c =
    let records = g.R.Rack.records c.args.rack.now in
    let n = c.count-count.result in
    let s = total_from_yields_List (λ a x. a + x) 0 c.sum.result c.sum.ensures.ran (YieldsList-from_map _ (share_at records) (YieldsList-from_range 0 n n c.map.ensures.source (omega arith)) c.map.ensures.closure (λ x r q k. search rules)) in
    ap Ok (s ∙ sum-map (share_at records) (range_with_len 0 n)) ∙ total_is records n c.count-count.ensures (omega arith)
