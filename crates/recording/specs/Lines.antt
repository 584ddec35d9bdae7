-- The line of text of a result. A line feed ends each line.
use Rattle.std.specs.Prelude.{ℕ, Bool, List, [], ◌∷◌, ◌++◌, length, ◌==◌, codes, decimal, if◌then◌else◌}
use Rattle.hexdigits.specs.Hex.{hex_of}
use Rattle.refusals.specs.Refusals.{number_of}
use Rattle.refusals.specs.declared.Refusal.TheVariants.{NumberOfRecords}
use Rattle.runs.specs.Channel.{flow_channel}
use Rattle.runs.specs.Traces.{Result, taken, refused, silent, answered}

abbrev pub line_feed : ℕ
line_feed = 10

abbrev pub refusal_line : ℕ → List ℕ
refusal_line number = codes "refused " ++ decimal number ++ line_feed ∷ []

abbrev pub answer_line : ℕ → List ℕ → List ℕ
answer_line channel bytes = decimal channel ++ codes " " ++ hex_of bytes ++ line_feed ∷ []

abbrev pub line_of : Result flow_channel → List ℕ
line_of taken = []
line_of (refused number) = refusal_line number
line_of silent = codes "silent" ++ line_feed ∷ []
line_of (answered channel bytes) = answer_line channel bytes

-- the line of what is left of a recording: fewer than 12 bytes are refused, as a file of a wrong length
abbrev pub rest_line : List ℕ → List ℕ
rest_line rest = (if length rest == 0 then [] else refusal_line (number_of NumberOfRecords))

-- a line more behind others, if there was memory for it
abbrev pub with_line : Bool → List ℕ → List ℕ → List ℕ
with_line kept? line lines = (if kept? then lines ++ line else lines)
