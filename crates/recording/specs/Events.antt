-- The events of a recording, 12 bytes each, and their calls.
use Rattle.std.specs.Prelude.{ℕ, Bool, ◌&&◌, List, Ok, Err, Result, ◌==◌, nat_le, slice_index, if◌then◌else◌}
use Rattle.std.specs.List.{between}
use Rattle.refusals.specs.Refusals.{number_of}
use Rattle.line.specs.Answers.{answer_room}
use Rattle.rack.specs.Refusals.{out_of_form}
use Rattle.refusals.specs.declared.Refusal.{Refusal}
use Rattle.setpoint.specs.Value.{value_of}
use Rattle.record.specs.Bytes.{number32, zeros?}
use Rattle.record.specs.declared.readings.Reading.{Reading}
use Rattle.runs.specs.Channel.{flow_channel, sample, key}
use Rattle.runs.specs.Traces as traces
use Rattle.calls.specs.Views.{call_of}
use Rattle.calls.specs.declared.Call as code
use Rattle.recording.specs.Recordings.{event_length}
use Rattle.recording.specs.declared.events.Event.{Event}
use Rattle.recording.specs.declared.events.Event.TheVariants.{Call, Look as LookEvent, SetUp as SetUpEvent}
use Rattle.recording.specs.declared.events.Format.{Format}
use Rattle.recording.specs.declared.events.Format.TheVariants.{Linerun, Supplyrun}
use Rattle.recording.specs.declared.events.Pause.{Pause}
use Rattle.recording.specs.declared.events.Pause.TheVariants.{Look, SetUp}

-- the places in an event: its kind; what it is about, which is a channel, the byte of a character or the room of a
-- gap; what is said of that, which is a character's marks or how a key is turned; and from byte 4 on two patterns of
-- four bytes
abbrev pub kind_place : ℕ
kind_place = 0

abbrev pub subject_place : ℕ
subject_place = 1

abbrev pub detail_place : ℕ
detail_place = 2

-- nothing stands in byte 3
abbrev pub blank_place : ℕ
blank_place = 3

abbrev pub first_pattern : ℕ
first_pattern = 4

abbrev pub second_pattern : ℕ
second_pattern = 8

-- the first pattern: the flow; the second: the temperature
abbrev pub reading_in : List ℕ → Reading
reading_in event = record {
  flow = value_of (number32 event first_pattern);
  temperature = value_of (number32 event second_pattern);
}

-- the kinds of events
abbrev pub character_kind : ℕ
character_kind = 1

abbrev pub gap_kind : ℕ
gap_kind = 2

abbrev pub sample_kind : ℕ
sample_kind = 3

abbrev pub key_kind : ℕ
key_kind = 4

-- the kinds that recordings of supplyrun have besides
abbrev pub room_kind : ℕ
room_kind = 5

abbrev pub look_kind : ℕ
look_kind = 6

abbrev pub set_up_kind : ℕ
set_up_kind = 7

abbrev pub kind_of : List ℕ → ℕ
kind_of event = slice_index event kind_place

abbrev pub subject_of : List ℕ → ℕ
subject_of event = slice_index event subject_place

abbrev pub detail_of : List ℕ → ℕ
detail_of event = slice_index event detail_place

-- what is not used is 0: to the end of an event, from this place on, or to its patterns
abbrev pub blank_from? : ℕ → List ℕ → Bool
blank_from? place event = zeros? (between place event_length event)

abbrev pub blank_to_patterns? : ℕ → List ℕ → Bool
blank_to_patterns? place event = zeros? (between place first_pattern event)

-- What an event in form asks for; 110 where it is not.
abbrev pub in_form : {X : Type 0} → Bool → X → Result X ℕ
in_form formed? x = if formed? then Ok x else Err out_of_form

-- what each kind asks for: a character, of byte and marks; a gap; a sample and a key turn, of a channel
abbrev pub character_call : List ℕ → traces.Call flow_channel
character_call event =
    traces.character (record { byte = subject_of event; marks = detail_of event })

abbrev pub gap_call : traces.Call flow_channel
gap_call = traces.gap answer_room

abbrev pub sample_call : List ℕ → traces.Call flow_channel
sample_call event = traces.local (subject_of event) (sample (reading_in event))

abbrev pub key_call : List ℕ → traces.Call flow_channel
key_call event = traces.local (subject_of event) (key (detail_of event == 1))

-- whether a key turn says to open or to shut
abbrev pub key_byte? : List ℕ → Bool
key_byte? event = nat_le (detail_of event) 1

-- by its kind; what is not used is 0
abbrev pub event_call : List ℕ → Result (traces.Call flow_channel) ℕ
event_call event =
    if kind_of event == character_kind then
    in_form (blank_from? blank_place event) (character_call event)
    else if kind_of event == gap_kind then in_form (blank_from? subject_place event) gap_call
    else if kind_of event == sample_kind then
    in_form (blank_to_patterns? detail_place event) (sample_call event)
    else if kind_of event == key_kind then
    in_form (key_byte? event && blank_from? blank_place event) (key_call event)
    else Err out_of_form

-- what the decoder answers: a call, or the number of a refusal
abbrev pub viewed : Result code.Call Refusal → Result (traces.Call flow_channel) ℕ
viewed (Ok call) = Ok (call_of call)
viewed (Err refusal) = Err (number_of refusal)

-- what an event asks for: a call, or what is done between the calls of a run
pub data Asked : Type 0 where
  calls : traces.Call flow_channel → Asked
  pauses : Pause → Asked

-- a gap of some room; a look at a channel; a set-up under the supply in bytes 4 to 7
abbrev pub room_asked : List ℕ → Asked
room_asked event = calls (traces.gap (subject_of event))

abbrev pub look_asked : List ℕ → Asked
look_asked event = pauses (Look (subject_of event))

abbrev pub set_up_asked : List ℕ → Asked
set_up_asked event = pauses (SetUp (number32 event first_pattern))

-- by its kind; what is not used is 0
abbrev pub own_asks : List ℕ → Result Asked ℕ
own_asks event =
    if kind_of event == room_kind then in_form (blank_from? detail_place event) (room_asked event)
    else if kind_of event == look_kind then in_form (blank_from? detail_place event) (look_asked event)
    else if kind_of event == set_up_kind then
    in_form (blank_to_patterns? subject_place event && blank_from? second_pattern event) (set_up_asked event)
    else Err out_of_form

-- a call, or what is asked where it is none
abbrev pub or_else : Result (traces.Call flow_channel) ℕ → Result Asked ℕ → Result Asked ℕ
or_else (Ok call) other = Ok (calls call)
or_else (Err number) other = other

-- Recordings of supplyrun have these three kinds besides.
abbrev pub event_asks : Format → List ℕ → Result Asked ℕ
event_asks Linerun event = or_else (event_call event) (Err out_of_form)
event_asks Supplyrun event = or_else (event_call event) (own_asks event)

-- what the decoder answers
abbrev pub asked_of : Event → Asked
asked_of (Call c) = calls (call_of c)
asked_of (LookEvent channel) = pauses (Look channel)
asked_of (SetUpEvent supply) = pauses (SetUp supply)

abbrev pub asked_by : Result Event Refusal → Result Asked ℕ
asked_by (Ok e) = Ok (asked_of e)
asked_by (Err refusal) = Err (number_of refusal)
