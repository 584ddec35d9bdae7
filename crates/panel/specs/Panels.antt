-- What a call on a panel does.
use Rattle.std.specs.Prelude.{◌≡◌, ℕ, if◌then◌else◌, List, [], length, take, Some, None, Ok, Err, Option, nat_le, nat_lt, slice_get, MatchOption}
use Rattle.std.specs.declared.result.Result as results
use Rattle.header.specs.Shares.{capacity_of}
use Rattle.line.specs.Characters.{Character, received}
use Rattle.rack.specs.declared.racks.Rack.{Ghosts}
use Rattle.rack.specs.Edits.{Edit}
use Rattle.rack.specs.Refusals.{no_channel, out_of_form}
use Rattle.receiver.specs.Holding.{Holds, pending}
use Rattle.record.specs.Layout.{encoded}
use Rattle.record.specs.Numbers.{record_length}
use Rattle.record.specs.declared.Record.{Record}
use Rattle.refusals.specs.Filling.{in_front}
use Rattle.refusals.specs.Refusals.{number_of, numbered}
use Rattle.refusals.specs.declared.Refusal.{Refusal}
use Rattle.refusals.specs.declared.Refusal.TheVariants.{ShortBuffer}
use Rattle.runs.specs.Channel.{flow_channel, Operation, edit_for}
use Rattle.runs.specs.Outcomes.{Outcome, outcome}
use Rattle.runs.specs.Steps.{Step}
use Rattle.runs.specs.Traces.{Call, Result, character, gap, local, taken, refused, silent, answered, ◌▸◌}
use Rattle.serving.specs.Serving.{Answering, answering_in, served, WritesOf, Lawfully}
use Rattle.serving.specs.declared.answers.Answer.{Answer}
use Rattle.panel.specs.declared.state.Panel.{Panel}

-- The channels of a panel are those of its rack, once a set-up was taken; before, it has none.
abbrev pub channels_of : Option ℕ → List Record → List Record
channels_of (Some supply) records = records
channels_of None records = []

abbrev pub capacity_for : Option ℕ → ℕ
capacity_for (Some supply) = capacity_of supply
capacity_for None = 0

-- the one outcome of a call, where these characters t are pending
abbrev pub outcome_for : Option ℕ → List Record → List Character → Call flow_channel → Outcome flow_channel
outcome_for supply records t call = outcome flow_channel (capacity_for supply) (channels_of supply records) t call

-- the records of the rack after it: a panel that was not set up leaves them
abbrev pub records_for : Option ℕ → List Record → Outcome flow_channel → List Record
records_for (Some supply) records o = o.rack
records_for None records o = records

module _ {X : Type 0} {G : Ghosts X} where
  -- the records that the rack of a panel means
  abbrev pub records_in : Panel X G → List Record
  records_in p = G.records p.rack

  abbrev pub channels_in : Panel X G → List Record
  channels_in p = channels_of p.supply (records_in p)

  abbrev pub channel_in : Panel X G → ℕ → Option Record
  channel_in p channel = slice_get (channels_in p) channel

  abbrev pub outcome_in : Panel X G → List Character → Call flow_channel → Outcome flow_channel
  outcome_in p t call = outcome_for p.supply (records_in p) t call

  -- A call that keeps the supply of a panel has this result and leaves these records: they are those of its one
  -- outcome, by the characters that the receiver may be taken to hold. Whatever characters it holds, it then holds
  -- those after the call; and on a panel that was set up the call is one step of the run relation.
  pub record Does (p p' : Panel X G) (call : Call flow_channel) (result : Result flow_channel) : Type 0 where
    pub keeps : p'.supply ≡ p.supply
    pub result_is : result ≡ (outcome_in p (pending p.receiver) call).result
    pub records_are : records_in p' ≡ records_for p.supply (records_in p) (outcome_in p (pending p.receiver) call)
    pub holds : (t : List Character) → Holds p.receiver t → Holds p'.receiver (outcome_in p t call).pending
    pub steps : (supply : ℕ) → p.supply ≡ Some supply → (t : List Character) → Holds p.receiver t
        → Step flow_channel (capacity_of supply) (records_in p) t (call ▸ result) (records_in p')
        (outcome_in p t call).pending

-- a call's answer as the result of a trace
abbrev pub result_of : results.Result (Unit {0}) Refusal → Result flow_channel
result_of (Ok u) = taken
result_of (Err e) = refused (number_of e)

-- a gap's, with the buffer after it
abbrev pub gap_result_of : results.Result (Option Answer) Refusal → List ℕ → Result flow_channel
gap_result_of (Ok None) buffer = silent
gap_result_of (Ok (Some a)) buffer = answered a.channel (take a.length buffer)
gap_result_of (Err e) buffer = refused (number_of e)

-- a call's answer in its result
abbrev pub answer_in : Result flow_channel → results.Result (Unit {0}) ℕ
answer_in taken = Ok tt
answer_in (refused n) = Err n
answer_in silent = Ok tt
answer_in (answered channel bytes) = Ok tt

module _ {X : Type 0} {G : Ghosts X} where
  -- the rack of a panel that was set up goes through just one write, and that of another through none
  abbrev pub OneWrite : Panel X G → Panel X G → ℕ → Edit → results.Result (Unit {0}) ℕ → Type 0
  OneWrite p p' channel edit answer =
      MatchOption p.supply (p'.rack ≡ p.rack) (λ _. G.wrote p.rack p'.rack channel edit answer)

  -- what is done at a channel itself: a call on the panel, and one write of its rack
  pub record Operated (p p' : Panel X G) (channel : ℕ) (operation : Operation)
      (result : results.Result (Unit {0}) Refusal) : Type 0 where
    pub does : Does p p' (local channel operation) (result_of result)
    pub once : OneWrite p p' channel (edit_for operation) (numbered result)

  abbrev pub Operates : Panel X G → Panel X G → ℕ → Edit → results.Result (Unit {0}) Refusal → Type 0
  Operates p p' channel edit result = (o : Operation) → edit ≡ edit_for o → Operated p p' channel o result

  -- which channel answers a gap with a lent buffer, if one does, by what, and what it writes: by what is received of
  -- the characters that are pending
  abbrev pub answering_for : Panel X G → List ℕ → Option Answering
  answering_for p buffer = answering_in (served p.supply (records_in p) (Some (received (pending p.receiver))) buffer)

  -- the rack goes through exactly these writes, and is the same value where none answers
  abbrev pub Wrote : Panel X G → Panel X G → Option Answering → Type 0
  Wrote p p' answering = WritesOf G.wrote answering p.rack p'.rack

  -- What the rack goes through at a call: a character leaves it the same value, a gap takes it through the writes of
  -- the channel that answers, and what is done at a channel itself through just one.
  abbrev pub Through : Panel X G → Panel X G → Call flow_channel → Result flow_channel → Type 0
  Through p p' (character c) result = p'.rack ≡ p.rack
  Through p p' (gap room) result = (buffer : List ℕ) → length buffer ≡ room → Wrote p p' (answering_for p buffer)
  Through p p' (local channel operation) result = OneWrite p p' channel (edit_for operation) (answer_in result)

  -- the law of answers, for the transmission that is answered
  abbrev pub AnsweredLawfully : Panel X G → List ℕ → Type 0
  AnsweredLawfully p buffer = Lawfully (Some (received (pending p.receiver))) (answering_for p buffer)

-- a gap with a lent buffer
abbrev pub gap_with : List ℕ → Call flow_channel
gap_with buffer = gap (length buffer)

-- response codes are below the numbers of calls' refusals
abbrev pub first_call_number : ℕ
first_call_number = 100

-- the number of a call's refusal by that of a rack's: a rack's response code is none
abbrev pub call_number : ℕ → ℕ
call_number number = if nat_le first_call_number number then number else out_of_form

-- who answers, if anybody, as the result of a trace
abbrev pub answering_result : Option Answering → Result flow_channel
answering_result (Some a) = answered a.channel a.bytes
answering_result None = silent

-- the buffer after a call: an answer stands in its front, and no other result touches it
abbrev pub buffer_of : Result flow_channel → List ℕ → List ℕ
buffer_of taken buffer = buffer
buffer_of (refused n) buffer = buffer
buffer_of silent buffer = buffer
buffer_of (answered channel bytes) buffer = in_front bytes buffer

module _ {X : Type 0} {G : Ghosts X} where
  -- what a gap gives that is not refused: silence, or the answer of the channel that answers
  abbrev pub Told : Panel X G → List ℕ → Result flow_channel → Type 0
  Told p buffer taken = ⊥
  Told p buffer (refused n) = answering_for p buffer ≡ None
  Told p buffer silent = answering_for p buffer ≡ None
  Told p buffer (answered channel bytes) =
      (a : Answering) × (answering_for p buffer ≡ Some a) × (channel ≡ a.channel) × (bytes ≡ a.bytes)

-- what a look at a channel answers: 101 where there is none, then 102 where the buffer is shorter than a record
abbrev pub look_record : List ℕ → Option Record → results.Result (Unit {0}) ℕ
look_record buffer (Some r) = if nat_lt (length buffer) record_length then Err (number_of ShortBuffer) else Ok tt
look_record buffer None = Err no_channel

-- the buffer after it: the bytes of the record in its front
abbrev pub look_buffer : List ℕ → Option Record → List ℕ
look_buffer buffer (Some r) = if nat_lt (length buffer) record_length then buffer else in_front (encoded r) buffer
look_buffer buffer None = buffer
