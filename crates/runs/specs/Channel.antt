-- A gas flow channel as a device: what the laws over runs are proved of.
use Rattle.std.specs.Prelude.{ℕ, Bool, false, if◌then◌else◌, ◌&&◌, List, [], is_ok, Some, None, Option, ◌==◌, nat_le, slice_index}
use Rattle.std.specs.Option.{option_map_or}
use Rattle.frame.specs.Frames.{Parts}
use Rattle.setpoint.specs.Load.{load_of}
use Rattle.setpoint.specs.Refusals.{admitted_under}
use Rattle.setpoint.specs.Share.{share_of}
use Rattle.setpoint.specs.Value.{value_of}
use Rattle.record.specs.Bytes.{number32}
use Rattle.record.specs.declared.Record.{Record}
use Rattle.record.specs.declared.readings.Reading.{Reading}
use Rattle.rack.specs.Changes.{refused_by, written, stored_pattern, record_after}
use Rattle.rack.specs.Edits as edits
use Rattle.line.specs.Addressing.{address_means?, means?}
use Rattle.line.specs.Answers.{status_of}
use Rattle.line.specs.Characters.{Character, Reception, received}
use Rattle.line.specs.Codes as codes
use Rattle.line.specs.Codes.{code_number, known?, percent?, asked_share}
use Rattle.line.specs.Commands.{command_of, counted?}
use Rattle.line.specs.Judgements.{Judgement, refused, own_judgement, changed_by, answer_bytes}
use Rattle.line.specs.Marks.{all_marks}
use Rattle.line.specs.Whole.{frame_of, sound?}
use Rattle.line.specs.declared.codes.ResponseCode.{ResponseCode}
use Rattle.line.specs.declared.codes.ResponseCode.TheVariants.{Success, AccessRestricted}
use Rattle.line.specs.declared.commands.Command.{Command}
use Rattle.line.specs.declared.commands.Command.TheVariants.{WritePollingAddress, WriteSetpoint}
use Rattle.runs.specs.Damage.{Damaged, CommunicationError}
use Rattle.runs.specs.Devices.{Device}

-- a local operation: a sample of the reading, or a turn of the key, open or shut
pub data Operation : Type 0 where
  sample : Reading → Operation
  key : Bool → Operation

-- the write that it is
abbrev pub edit_for : Operation → edits.Edit
edit_for (sample reading) = edits.sample reading
edit_for (key open?) = edits.key open?

-- The nameplate of a channel, a term of this project: what stays as at set-up.
pub record Nameplate : Type 0 where
  pub device_type : ℕ
  pub identification : ℕ
  pub ceiling : ℕ
  pub full_scale : ℕ

abbrev pub nameplate : Record → Nameplate
nameplate r = record {
  device_type = r.fields.device_type;
  identification = r.fields.identification;
  ceiling = r.fields.ceiling;
  full_scale = r.fields.full_scale;
}

-- What was granted to a channel, a term of this project: its setpoint, its polling address and its key, which the
-- history tells.
pub record Granted : Type 0 where
  pub setpoint : ℕ
  pub polling_address : ℕ
  pub key_open : Bool

abbrev pub granted_in : Record → Granted
granted_in r = record {
  setpoint = r.fields.setpoint;
  polling_address = r.fields.polling_address;
  key_open = r.fields.key_open;
}

-- The pattern of the setpoint stands behind its unit code in the data of a command.
abbrev pub pattern_in : List ℕ → ℕ
pattern_in bytes = number32 bytes 1

-- An accepted setpoint command grants its setpoint, minus zero as zero, and an accepted polling address is granted.
-- Nothing else is.
abbrev pub after_command : List ℕ → Granted → Command → Granted
after_command bytes grant WriteSetpoint = record grant { setpoint = stored_pattern (pattern_in bytes) }
after_command bytes grant WritePollingAddress = record grant { polling_address = slice_index bytes 0 }
after_command bytes grant command = grant

-- whether an answer tells a code
abbrev pub tells? : ResponseCode → List ℕ → Bool
tells? code answer = option_map_or (λ status. status == code_number code) (status_of answer) false

-- after an answer to a frame: only an answer of code 0 grants
abbrev pub after_reply : Parts → Granted → List ℕ → Granted
after_reply f grant answer =
    if tells? Success answer
    then option_map_or (after_command f.«data» grant) (command_of f.command) grant
    else grant

-- a key turn that is taken opens or shuts
abbrev pub after_operation : Granted → Operation → Option ℕ → Granted
after_operation grant (sample reading) refusal = grant
after_operation grant (key open?) (Some n) = grant
after_operation grant (key open?) None = record grant { key_open = open? }

-- the share of a granted setpoint: its load times the full scale
abbrev pub share_of_grant : Nameplate → Granted → ℕ
share_of_grant p grant = share_of (load_of (value_of grant.setpoint)) p.full_scale

-- whether a frame is a setpoint command
abbrev pub setpoint_frame? : Parts → Bool
setpoint_frame? f = known? codes.setpoint? (command_of f.command)

-- whether it is, as received, a sound one past every refusal of the channel's own
abbrev pub frame_asks? : Reception → Record → Parts → Bool
frame_asks? x r f = sound? x && codes.asks? (command_of f.command) f.«data» r.fields

-- the same by nameplate and history: sound, of its count, the key open, the unit code of percent in front, and a
-- setpoint that the ceiling admits
abbrev pub asks_by? : Reception → Nameplate → Granted → Parts → Bool
asks_by? x p grant f =
    sound? x && (setpoint_frame? f && (counted? WriteSetpoint f.«data» && (grant.key_open && (percent? f.«data»
    && is_ok (admitted_under p.ceiling (value_of (pattern_in f.«data»)))))))

-- whom a setpoint command means, by nameplate and granted polling address
abbrev pub means_by? : Nameplate → Granted → Parts → Bool
means_by? p grant f = address_means? f.address grant.polling_address p.device_type p.identification

-- the judgement of a frame that means a channel, where the header does not object
abbrev pub judged_alone : Reception → Record → Parts → Judgement
judged_alone x r f = own_judgement x f r.fields

-- the channel's record after it, and its answer
abbrev pub after_frame : Reception → Record → Parts → Record
after_frame x r f = changed_by (judged_alone x r f) r

abbrev pub own_reply_to : Reception → Record → Parts → List ℕ
own_reply_to x r f = answer_bytes f (judged_alone x r f) (after_frame x r f)

-- its answer where the header objects, and the record stays
abbrev pub denial_to : Record → Parts → List ℕ
denial_to r f = answer_bytes f (refused AccessRestricted) r

abbrev pub frame_in : List Character → Option Parts
frame_in characters = frame_of (received characters)

-- what is made of the frame of a transmission, and otherwise of one that is not whole
abbrev pub framed : {X : Type 0} → List Character → X → (Parts → X) → X
framed characters otherwise make = option_map_or make (frame_in characters) otherwise

abbrev pub flow_channel : Device
flow_channel = record {
  Record = Record;
  Character = Character;
  Operation = Operation;
  Answer = List ℕ;
  Nameplate = Nameplate;
  Grant = Granted;
  acceptable? = λ c. nat_le c.marks all_marks;
  meant? = λ r pending. framed pending false (λ f. means? f r);
  asks? = λ r pending. framed pending false (frame_asks? (received pending) r);
  served = λ r pending. framed pending r (after_frame (received pending) r);
  reply = λ r pending. framed pending [] (own_reply_to (received pending) r);
  denial = λ r pending. framed pending [] (denial_to r);
  denial? = tells? AccessRestricted;
  operated = λ r operation. record_after (written (edit_for operation) r) r;
  refusal = λ r operation. refused_by (edit_for operation) r.fields;
  nameplate = nameplate;
  grant = granted_in;
  after_answer = λ grant pending answer. framed pending grant (λ f. after_reply f grant answer);
  after_operation = after_operation;
  share = share_of_grant;
  asked = λ p pending. framed pending 0 (λ f. asked_share f.«data» p.full_scale);
  setpoint? = λ pending. framed pending false setpoint_frame?;
  meant_by? = λ p grant pending. framed pending false (means_by? p grant);
  asks_by? = λ p grant pending. framed pending false (asks_by? (received pending) p grant);
  Damaged = Damaged;
  CommunicationError = CommunicationError;
}
