-- What writes make of a record.
use Rattle.std.specs.Prelude.{List, Option}
use Rattle.std.specs.Option.{option_map, option_to_list}
use Rattle.rack.specs.Edits.{Edit, edit_of}
use Rattle.rack.specs.declared.changes.Change.{Change}

-- the edit of a change, if there is one
abbrev pub edit_in : Option Change → List Edit
edit_in change = option_to_list (option_map edit_of change)
