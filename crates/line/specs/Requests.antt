-- What a request asks.
use Rattle.std.specs.Prelude.{ℕ, if◌then◌else◌, List, length, ◌==◌}
use Rattle.std.specs.Option.{option_map_or}
use Rattle.record.specs.TextParts.{part_length, tag}
use Rattle.line.specs.Commands.{number_of, command_of}
use Rattle.line.specs.declared.commands.Command.{Command}
use Rattle.line.specs.declared.commands.Command.TheVariants.{ReadUniqueIdentifierByTag, WritePollingAddress, WriteMessage, WriteTagDescriptorDate, WriteAssemblyNumber, WritePreambles, WriteSetpoint}

pub data Asked : Type 0 where
  -- which channel has this tag
  tag_question : List ℕ → Asked
  -- a command that writes text or a number, with its bytes whatever their count
  text_write number_write : Command → List ℕ → Asked
  -- any other command, by its number
  bare : ℕ → Asked

-- the request of a known command: the question for a tag is one with as many bytes as a tag
abbrev pub asked_of : Command → List ℕ → Asked
asked_of ReadUniqueIdentifierByTag bytes =
    if length bytes == part_length tag then tag_question bytes
    else bare (number_of ReadUniqueIdentifierByTag)
asked_of WriteMessage bytes = text_write WriteMessage bytes
asked_of WriteTagDescriptorDate bytes = text_write WriteTagDescriptorDate bytes
asked_of WritePollingAddress bytes = number_write WritePollingAddress bytes
asked_of WriteAssemblyNumber bytes = number_write WriteAssemblyNumber bytes
asked_of WritePreambles bytes = number_write WritePreambles bytes
asked_of WriteSetpoint bytes = number_write WriteSetpoint bytes
asked_of command bytes = bare (number_of command)

-- the request of a command's number with its data
abbrev pub asked_by : ℕ → List ℕ → Asked
asked_by number bytes =
    option_map_or (λ command. asked_of command bytes) (command_of number) (bare number)
