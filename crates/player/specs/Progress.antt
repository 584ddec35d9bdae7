-- How far a player has come.
use Rattle.std.specs.Prelude.{Bool, true, false}
use Rattle.player.specs.declared.progress.Progress.{Progress}
use Rattle.player.specs.declared.progress.Progress.TheVariants.{Going, Waiting, Ended, Interrupted}

-- it names calls
abbrev pub going? : Progress → Bool
going? Going = true
going? (Waiting pause) = false
going? Ended = false
going? (Interrupted interruption) = false

-- it was not interrupted: then no line was lost, and the input did not fail
abbrev pub complete? : Progress → Bool
complete? Going = true
complete? (Waiting pause) = true
complete? Ended = true
complete? (Interrupted interruption) = false
