-- A record to begin with.
use Rattle.std.specs.Prelude.{false, replicate}
use Rattle.setpoint.specs.Value.{value_of}
use Rattle.record.specs.declared.Record.{Record}
use Rattle.record.specs.Numbers.{least_reply_preambles, text_length}

-- everything at 0 but what cannot be: two preambles, a full scale of 1 mL/min
abbrev pub blank_record : Record
blank_record = record {
  fields = record {
    device_type = 0;
    identification = 0;
    polling_address = 0;
    preambles = least_reply_preambles;
    assembly_number = 0;
    changed = false;
    key_open = false;
    setpoint = 0;
    ceiling = 0;
    flow_unit = 0;
    full_scale = 1;
  };
  reading = record { flow = value_of 0; temperature = value_of 0 };
  text = replicate text_length 0;
}
