-- The commands that a channel knows, in one table: their numbers, and how many data bytes those have
-- that write.
use Rattle.std.specs.Prelude.{ℕ, Bool, true, List, [], ◌∷◌, length, find, is_some, Some, None, Option, ◌==◌}
use Rattle.std.specs.Option.{option_map_or}
use Rattle.record.specs.TextParts.{part_length, labels, message}
use Rattle.line.specs.declared.commands.Command.{Command}
use Rattle.line.specs.declared.commands.Command.TheVariants.{
  ReadUniqueIdentifier,
  ReadPrimaryVariable,
  WritePollingAddress,
  ReadUniqueIdentifierByTag,
  ReadMessage,
  ReadTagDescriptorDate,
  ReadAssemblyNumber,
  WriteMessage,
  WriteTagDescriptorDate,
  WriteAssemblyNumber,
  ResetConfigurationChanged,
  WritePreambles,
  ReadSetpoint,
  WriteSetpoint,
}

abbrev pub number_of : Command → ℕ
number_of ReadUniqueIdentifier = 0
number_of ReadPrimaryVariable = 1
number_of WritePollingAddress = 6
number_of ReadUniqueIdentifierByTag = 11
number_of ReadMessage = 12
number_of ReadTagDescriptorDate = 13
number_of ReadAssemblyNumber = 16
number_of WriteMessage = 17
number_of WriteTagDescriptorDate = 18
number_of WriteAssemblyNumber = 19
number_of ResetConfigurationChanged = 38
number_of WritePreambles = 59
number_of ReadSetpoint = 235
number_of WriteSetpoint = 236

-- how many data bytes a command asks for that writes; none for one that reads, whatever data come with
-- it
abbrev pub count_of : Command → Option ℕ
count_of ReadUniqueIdentifier = None
count_of ReadPrimaryVariable = None
count_of WritePollingAddress = Some 1
count_of ReadUniqueIdentifierByTag = None
count_of ReadMessage = None
count_of ReadTagDescriptorDate = None
count_of ReadAssemblyNumber = None
count_of WriteMessage = Some (part_length message)
count_of WriteTagDescriptorDate = Some (part_length labels)
count_of WriteAssemblyNumber = Some 3
count_of ResetConfigurationChanged = Some 0
count_of WritePreambles = Some 1
count_of ReadSetpoint = None
count_of WriteSetpoint = Some 5

abbrev pub commands : List Command
commands =
    ReadUniqueIdentifier ∷ ReadPrimaryVariable ∷ WritePollingAddress ∷ ReadUniqueIdentifierByTag
    ∷ ReadMessage ∷ ReadTagDescriptorDate ∷ ReadAssemblyNumber ∷ WriteMessage
    ∷ WriteTagDescriptorDate ∷ WriteAssemblyNumber ∷ ResetConfigurationChanged ∷ WritePreambles
    ∷ ReadSetpoint ∷ WriteSetpoint ∷ []

-- the command of a number, where a channel knows one
abbrev pub command_of : ℕ → Option Command
command_of number = find (λ command. number_of command == number) commands

-- whether a command writes, under the key
abbrev pub writes? : Command → Bool
writes? command = is_some (count_of command)

-- whether data have the count that a command asks for
abbrev pub counted? : Command → List ℕ → Bool
counted? command bytes = option_map_or (λ count. length bytes == count) (count_of command) true
