-- What is kept of a row's transmission, whose characters may be marked by any byte.
use Rattle.std.specs.Prelude.{◌+◌, ◌%◌}
use Rattle.line.specs.Characters.{Reception}
use Rattle.line.specs.Marks.{all_marks}
use Rattle.linevectors.specs.declared.heard.Heard.{Heard}

abbrev pub reception : Heard → Reception
reception h = record { preambles = h.preambles; span = h.span.now; marks = h.marks }

-- the same with the marks alone that are known: the bits above them are left out
abbrev pub known : Reception → Reception
known x = record x { marks = x.marks % (all_marks + 1) }
