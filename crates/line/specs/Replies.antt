-- The data of a reply.
use Rattle.std.specs.Prelude.{ℕ, List, [], ◌∷◌, ◌++◌}
use Rattle.std.specs.Option.{unwrap_or}
use Rattle.setpoint.specs.Units.{in_units}
use Rattle.record.specs.Bytes.{bytes24, bytes32}
use Rattle.record.specs.Readings.{pattern_of}
use Rattle.record.specs.TextParts.{labels, message, part_of}
use Rattle.record.specs.declared.Fields.{Fields}
use Rattle.record.specs.declared.Record.{Record}
use Rattle.line.specs.Addressing.{manufacturer}
use Rattle.line.specs.Codes.{percent_unit}
use Rattle.line.specs.declared.commands.Command.{Command}
use Rattle.line.specs.declared.commands.Command.TheVariants.{ReadUniqueIdentifier, ReadPrimaryVariable, ReadUniqueIdentifierByTag, ReadMessage, ReadTagDescriptorDate, ReadAssemblyNumber, ResetConfigurationChanged, ReadSetpoint, WriteSetpoint}

-- FE, the manufacturer, device type, the revisions and flags of these instruments, identification
-- number
abbrev pub unique_identifier_data : Fields → List ℕ
unique_identifier_data f =
    0xfe ∷ manufacturer ∷ f.device_type ∷ 2 ∷ 5 ∷ 1 ∷ 1 ∷ 8 ∷ 0 ∷ bytes24 f.identification

-- percent, the setpoint, the flow unit, the setpoint in units; a lawful record has one, and 0 stands for
-- what another lacks
abbrev pub setpoint_data : Fields → List ℕ
setpoint_data f =
    percent_unit ∷ bytes32 f.setpoint
    ++ f.flow_unit ∷ bytes32 (unwrap_or (in_units f.setpoint f.full_scale) 0)

-- The data of a reply of code 0, from the request's data and the record after the command. Commands that
-- write data answer the same data.
abbrev pub reply_data : Command → List ℕ → Record → List ℕ
reply_data ReadUniqueIdentifier bytes r = unique_identifier_data r.fields
reply_data ReadUniqueIdentifierByTag bytes r = unique_identifier_data r.fields
reply_data ReadPrimaryVariable bytes r = r.fields.flow_unit ∷ bytes32 (pattern_of r.reading.flow)
reply_data ReadMessage bytes r = part_of message r.text
reply_data ReadTagDescriptorDate bytes r = part_of labels r.text
reply_data ReadAssemblyNumber bytes r = bytes24 r.fields.assembly_number
reply_data ReadSetpoint bytes r = setpoint_data r.fields
reply_data WriteSetpoint bytes r = setpoint_data r.fields
reply_data ResetConfigurationChanged bytes r = []
reply_data command bytes r = bytes
