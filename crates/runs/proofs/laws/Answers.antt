use Rattle.std.proofs.Common.{refl}
use Rattle.runs.proofs.SetUps.{promised, runs_alike, calls_follow, calls_determined}
use Rattle.runs.proofs.laws.Goals as goal

pub returns : goal.returns
returns c = record { nothing = refl; promised = promised; alone = runs_alike; follow = calls_follow; determined = calls_determined }
