use Rattle.std.proofs.Common.{◌∙◌, refl, arith, rules, tests}
use Rattle.std.proofs.lemmas.Iterator.{YieldsList-from_range}
use Rattle.std.proofs.lemmas.Iterator.Search.{any_from_yields_List}
use Rattle.setup.specs.SetUps.{same_identity_later?}
use Rattle.setup.proofs.SameIdentity.{same_identity_from}
use Rattle.setup.proofs.any_same_identity.Goals as goal

pub returns : goal.returns
returns g c =
    let rs = g.R.Rack.records c.args.rack.now in
    let n = c.count.result in
    any_from_yields_List (same_identity_later? rs) _ _ _ c.any.ensures.ran (YieldsList-from_range 0 n n refl (omega arith)) (λ x b q k. search (rules, tests))
    ∙ same_identity_from rs c.requires n 0 (omega arith)
