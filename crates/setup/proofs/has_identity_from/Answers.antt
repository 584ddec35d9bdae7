use Rattle.std.proofs.Common.{◌-◌, ◌∙◌, refl, arith, rules, tests}
use Rattle.std.proofs.lemmas.Iterator.{YieldsList-from_range}
use Rattle.std.proofs.lemmas.Iterator.Search.{any_from_yields_List}
use Rattle.setup.specs.SetUps.{identity_at?}
use Rattle.setup.proofs.SameIdentity.{among_from}
use Rattle.setup.proofs.has_identity_from.Goals as goal

pub returns : goal.returns
returns g c =
    let rs = g.R.Rack.records c.args.rack.now in
    let n = c.count.result in
    let i = c.args.channel in
    any_from_yields_List (identity_at? c.args.fields rs) _ _ _ c.any.ensures.ran (YieldsList-from_range i n (n - i) refl refl) (λ x b q k. search (rules, tests))
    ∙ among_from rs c.requires c.args.fields (n - i) i (omega arith)
