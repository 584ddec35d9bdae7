-- What an accepted command writes.
use Rattle.std.specs.Prelude.{◌≡◌, ℕ, true, false, List, [], ◌∷◌, None, Option, slice_index}
use Rattle.record.specs.Bytes.{number24, number32}
use Rattle.record.specs.TextParts.{labels, message}
use Rattle.record.specs.declared.Fields.{Fields}
use Rattle.record.specs.declared.Record.{Record}
use Rattle.rack.specs.Changes.{refused_by, put}
use Rattle.rack.specs.Edits.{Edit, polling_address, preambles, assembly_number, setpoint, changed, text}
use Rattle.line.specs.declared.commands.Command.{Command}
use Rattle.line.specs.declared.commands.Command.TheVariants.{WritePollingAddress, WriteMessage, WriteTagDescriptorDate, WriteAssemblyNumber, ResetConfigurationChanged, WritePreambles, WriteSetpoint}

-- What a command writes from data of its count, in this order: the field, then the changed flag. All
-- that write from their data set the flag, but not the setpoint, which stands behind its unit code;
-- another clears it.
abbrev pub edits_of : Command → List ℕ → List Edit
edits_of WritePollingAddress bytes = polling_address (slice_index bytes 0) ∷ changed true ∷ []
edits_of WriteMessage bytes = text message.start bytes ∷ changed true ∷ []
edits_of WriteTagDescriptorDate bytes = text labels.start bytes ∷ changed true ∷ []
edits_of WriteAssemblyNumber bytes = assembly_number (number24 bytes 0) ∷ changed true ∷ []
edits_of WritePreambles bytes = preambles (slice_index bytes 0) ∷ changed true ∷ []
edits_of WriteSetpoint bytes = setpoint (number32 bytes 1) ∷ []
edits_of ResetConfigurationChanged bytes = changed false ∷ []
edits_of command bytes = []

-- the number by which the first of these edits is refused; behind it stands only the flag, which never
-- is
abbrev pub refusal_of : List Edit → Fields → Option ℕ
refusal_of [] fields = None
refusal_of (e ∷ es) fields = refused_by e fields

-- the record with each of these values in its field, one after another
abbrev pub after_edits : List Edit → Record → Record
after_edits [] r = r
after_edits (e ∷ es) r = after_edits es (put e r)

-- none of these edits is refused, one after another
abbrev pub Admitted : List Edit → Record → Type 0
Admitted [] r = Unit {0}
Admitted (e ∷ es) r = (refused_by e r.fields ≡ None) × Admitted es (put e r)
