-- What a trace tells, read from its calls and results alone, never from a state.
use Rattle.std.specs.Prelude.{ℕ, suc, if◌then◌else◌, List, [], ◌∷◌, ◌++◌, map, Some, None, Option, ◌==◌}
use Rattle.line.specs.Answers.{answer_room}
use Rattle.runs.specs.Devices.{Device}
use Rattle.runs.specs.Shares.{sum_of, sum_but}
use Rattle.runs.specs.Traces.{Rack, Pending, Call, Result, Trace, character, gap, local, taken, refused, silent, answered, ◌▸◌}

module _ (D : Device) where
  -- the pending characters, once a call has a result: an answered or a silent gap ends the transmission
  abbrev pub pending_next : Pending D → Call D → Result D → Pending D
  pending_next pending (character c) result = elim result [
    | taken ↦ pending ++ (c ∷ [])
    | refused n ↦ pending
    | silent ↦ pending
    | answered j a ↦ pending
  ]
  pending_next pending (gap n) result = elim result [
    | taken ↦ pending
    | refused m ↦ pending
    | silent ↦ []
    | answered j a ↦ []
  ]
  pending_next pending (local place operation) result = pending

  -- the pending characters after a trace
  abbrev pub pending_after : Pending D → Trace D → Pending D
  pending_after pending [] = pending
  pending_after pending (e ∷ es) = pending_after (pending_next pending e.call e.result) es

  -- the number by which a local operation with this result was refused, if it was
  abbrev pub refusal_of : Result D → Option ℕ
  refusal_of taken = None
  refusal_of (refused n) = Some n
  refusal_of silent = None
  refusal_of (answered j a) = None

  -- what is known of the channel at this place, once a call has a result; every answer of the channel counts
  abbrev pub grant_after : ℕ → D.Grant → Pending D → Call D → Result D → D.Grant
  grant_after place grant pending (character c) result = grant
  grant_after place grant pending (gap n) result = elim result [
    | taken ↦ grant
    | refused m ↦ grant
    | silent ↦ grant
    | answered j a ↦ if j == place then D.after_answer grant pending a else grant
  ]
  grant_after place grant pending (local j operation) result =
      if j == place then D.after_operation grant operation (refusal_of result) else grant

  -- what a trace tells of the channel at this place, of which the grant was known before it
  abbrev pub granted : ℕ → D.Grant → Pending D → Trace D → D.Grant
  granted place grant pending [] = grant
  granted place grant pending (e ∷ es) =
      granted place (grant_after place grant pending e.call e.result) (pending_next pending e.call e.result) es

  -- The standing of a channel, a term of this project: its nameplate and what the history tells of it.
  pub record Standing : Type 0 where
    pub nameplate : D.Nameplate
    pub grant : D.Grant

  -- the standings after a trace since set-up, of channels numbered from this place on
  abbrev pub standings_from : ℕ → Rack D → Trace D → List Standing
  standings_from place [] es = []
  standings_from place (r ∷ records) es =
      record { nameplate = D.nameplate r; grant = granted place (D.grant r) [] es }
      ∷ standings_from (suc place) records es

  abbrev pub standings : Rack D → Trace D → List Standing
  standings records es = standings_from 0 records es

  abbrev pub standing_share : Standing → ℕ
  standing_share standing = D.share standing.nameplate standing.grant

  abbrev pub granted_total : List Standing → ℕ
  granted_total standings = sum_of standing_share standings

  -- the shares of all standings but the one at this place
  abbrev pub granted_others : List Standing → ℕ → ℕ
  granted_others standings place = sum_but standing_share standings place

  -- what the interactions of a trace give, one after another
  abbrev pub collected : {X : Type 0} → (Call D → Result D → List X) → Trace D → List X
  collected give [] = []
  collected give (e ∷ es) = give e.call e.result ++ collected give es

  -- the channel's answer in an interaction, if it is one, the header's refusals aside
  abbrev pub answer_of : ℕ → Call D → Result D → List D.Answer
  answer_of place (character c) result = []
  answer_of place (gap n) result = elim result [
    | taken ↦ []
    | refused m ↦ []
    | silent ↦ []
    | answered j a ↦ if D.denial? a then [] else (if j == place then a ∷ [] else [])
  ]
  answer_of place (local j operation) result = []

  abbrev pub answers_of : ℕ → Trace D → List D.Answer
  answers_of place es = collected (answer_of place) es

  -- the result of the channel's local operation in an interaction, if it is one
  abbrev pub local_result_of : ℕ → Call D → Result D → List (Result D)
  local_result_of place (character c) result = []
  local_result_of place (gap n) result = []
  local_result_of place (local j operation) result = if j == place then result ∷ [] else []

  abbrev pub local_results_of : ℕ → Trace D → List (Result D)
  local_results_of place es = collected (local_result_of place) es

  -- a transmission's characters, taken one after another
  abbrev pub taken_characters : Pending D → Trace D
  taken_characters pending = map (λ c. character c ▸ taken) pending

  -- What a panel that holds the channel at this place alone gets of a call, with what it then answers: a transmission
  -- that the channel answered, the header's refusals aside, as its characters and a gap with just the room that it
  -- wants; a local operation on the channel as one on channel 0.
  abbrev pub lone_at : ℕ → Pending D → Call D → Result D → Trace D
  lone_at place pending (character c) result = []
  lone_at place pending (gap n) result = elim result [
    | taken ↦ []
    | refused m ↦ []
    | silent ↦ []
    | answered j a ↦
        if D.denial? a then [] else
        (if j == place then taken_characters pending ++ ((gap answer_room ▸ answered 0 a) ∷ []) else [])
  ]
  lone_at place pending (local j operation) result = if j == place then (local 0 operation ▸ result) ∷ [] else []

  -- the same of a trace, with these characters pending before it
  abbrev pub lone : ℕ → Pending D → Trace D → Trace D
  lone place pending [] = []
  lone place pending (e ∷ es) =
      lone_at place pending e.call e.result ++ lone place (pending_next pending e.call e.result) es
