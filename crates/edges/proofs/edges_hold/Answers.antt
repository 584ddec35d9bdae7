use Rattle.std.proofs.Common.{refl}
use Rattle.edges.proofs.Rows.{edges}
use Rattle.edges.proofs.edges_hold.Goals as goal

pub returns : goal.returns
returns c = record { nothing = refl; rows = edges }
