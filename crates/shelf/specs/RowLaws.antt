-- The laws of a shelf's rows hold in one way.
use Rattle.std.specs.Prelude.{ℕ, List}
use Rattle.std.proofs.Props.{props}
use Rattle.std.specs.List.{AllByRecursion-prop}
use Rattle.record.specs.Lawful.{Lawful}
use Rattle.shelf.specs.Rows.{AllLawful, AllFaultless, Faultless, records_in}

pub all_lawful-prop : (rows : List (List ℕ)) → IsProp (AllLawful rows)
all_lawful-prop rows = AllByRecursion-prop Lawful (λ r. hlevel props) (records_in rows)

pub all_faultless-prop : (rows : List (List ℕ)) → IsProp (AllFaultless rows)
all_faultless-prop rows = AllByRecursion-prop Faultless (λ row. hlevel props) rows
