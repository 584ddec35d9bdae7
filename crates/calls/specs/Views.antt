-- Calls and their responses as the interactions of a trace.
use Rattle.std.specs.Prelude.{Ok, Err, Result}
use Rattle.refusals.specs.Refusals.{number_of}
use Rattle.refusals.specs.declared.Refusal.{Refusal}
use Rattle.runs.specs.Channel.{flow_channel, sample, key}
use Rattle.runs.specs.Traces as traces
use Rattle.runs.specs.Traces.{Interaction, ◌▸◌}
use Rattle.calls.specs.declared.Call.{Call}
use Rattle.calls.specs.declared.Call.TheVariants.{Character, Gap, Sample, Key}
use Rattle.calls.specs.declared.Response.{Response}
use Rattle.calls.specs.declared.Response.TheVariants.{Taken, Silent, Answered}

abbrev pub call_of : Call → traces.Call flow_channel
call_of (Character byte marks) = traces.character (record { byte = byte; marks = marks })
call_of (Gap room) = traces.gap room
call_of (Sample place reading) = traces.local place (sample reading)
call_of (Key place open?) = traces.local place (key open?)

abbrev pub result_of : Result Response Refusal → traces.Result flow_channel
result_of (Ok Taken) = traces.taken
result_of (Ok Silent) = traces.silent
result_of (Ok (Answered place bytes)) = traces.answered place bytes.now
result_of (Err refusal) = traces.refused (number_of refusal)

-- a call with what came of it
abbrev pub interaction_of : Call → Result Response Refusal → Interaction flow_channel
interaction_of c response = call_of c ▸ result_of response
