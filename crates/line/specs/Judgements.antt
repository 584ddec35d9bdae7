-- How a channel judges a whole transmission that means it, and what comes of that: what is written, and
-- what is answered.
use Rattle.std.specs.Prelude.{◌≡◌, ℕ, Bool, if◌then◌else◌, List, [], ◌∷◌, Some, None, Option}
use Rattle.frame.specs.Frames.{Parts}
use Rattle.frame.specs.Making.{asked, reply_transmission}
use Rattle.record.specs.declared.Fields.{Fields}
use Rattle.record.specs.declared.Record.{Record}
use Rattle.rack.specs.Edits.{Edit}
use Rattle.line.specs.Allotments.{Allotment}
use Rattle.line.specs.Characters.{Reception}
use Rattle.line.specs.Codes.{code_number, success?, code_of, own_code}
use Rattle.line.specs.Commands.{command_of}
use Rattle.line.specs.Edits.{edits_of, after_edits, Admitted}
use Rattle.line.specs.Replies.{reply_data}
use Rattle.line.specs.Whole.{sound?, error_status}
use Rattle.line.specs.declared.codes.ResponseCode.{ResponseCode}
use Rattle.line.specs.declared.commands.Command.{Command}

pub data Judgement : Type 0 where
  -- not sound: the first status that tells the communication error
  damaged : ℕ → Judgement
  -- sound, and refused by a code
  refused : ResponseCode → Judgement
  -- a command, with its data, that is accepted
  accepted : Command → List ℕ → Judgement

-- the judgement of a sound request, by its code
abbrev pub judged_by : ResponseCode → Option Command → List ℕ → Judgement
judged_by code (Some command) bytes = if success? code then accepted command bytes else refused code
judged_by code None bytes = refused code

abbrev pub judgement : Reception → Parts → Fields → Allotment → Judgement
judgement x f fields a =
    let command = command_of f.command in
    if sound? x then judged_by (code_of command f.«data» fields a) command f.«data»
    else damaged (error_status x)

-- the same where the supply does not object
abbrev pub own_judgement : Reception → Parts → Fields → Judgement
own_judgement x f fields =
    let command = command_of f.command in
    if sound? x then judged_by (own_code command f.«data» fields) command f.«data»
    else damaged (error_status x)

-- only an accepted command writes
abbrev pub edits : Judgement → List Edit
edits (damaged status) = []
edits (refused code) = []
edits (accepted command bytes) = edits_of command bytes

-- the channel's record after the writes
abbrev pub changed_by : Judgement → Record → Record
changed_by j r = after_edits (edits j) r

-- no write of the judgement is refused to a channel with these fields
abbrev pub Writable : Judgement → Fields → Type 0
Writable j fields = (r : Record) → r.fields ≡ fields → Admitted (edits j) r

-- the second status where the configuration counts as changed
abbrev pub configuration_changed : ℕ
configuration_changed = 64

abbrev pub second_for : Bool → ℕ
second_for changed = if changed then configuration_changed else 0

abbrev pub second_status : Record → ℕ
second_status r = second_for r.fields.changed

-- What a reply carries, from the record after the writes: two status bytes and data. A communication
-- error has no second status, and only code 0 has data.
abbrev pub carried : Judgement → Record → List ℕ
carried (damaged status) r = status ∷ 0 ∷ []
carried (refused code) r = code_number code ∷ second_status r ∷ []
carried (accepted command bytes) r = 0 ∷ second_status r ∷ reply_data command bytes r

-- the bytes of an answer: as many preambles as the channel has after the writes, and a reply's frame to
-- the request's
abbrev pub answer_bytes : Parts → Judgement → Record → List ℕ
answer_bytes f j r = reply_transmission (asked r.fields.preambles f.address f.command (carried j r))
