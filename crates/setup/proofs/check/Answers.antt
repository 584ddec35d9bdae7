use Rattle.std.proofs.Common.{sym, arith, rules}
use Rattle.setup.proofs.SetUps.{distinct, none_same}
use Rattle.setup.proofs.check.Goals as goal

pub returns-then-any_same_identity-clause-exact : goal.returns-then-any_same_identity-clause-exact
returns-then-any_same_identity-clause-exact g c = λ s. let e = none_same (g.R.Rack.records c.args.rack.now) s.distinct in cc

pub returns-clause-taken : goal.returns-clause-taken
returns-clause-taken g c = record {
  supplied = omega arith;
  few = omega arith;
  distinct = λ j k q r a b d i. distinct (sym c.if-any_same_identity.ensures) a b (d, i);
  fits = search rules;
}
