use Rattle.std.proofs.Common.{◌+◌, suc, length, ◌++◌, [], true, Ok, refl, ap, ◌∙◌, arith}
use Rattle.panel.specs.Panels.{records_in}
use Rattle.rack.specs.Files.{file_records}
use Rattle.recording.proofs.Cuts.{cut_anywhere}
use Rattle.recording.specs.Events.{pauses}
use Rattle.recording.specs.Lines.{refusal_line, rest_line}
use Rattle.recording.specs.Recordings.{events_of, rest_of}
use Rattle.refusals.specs.Refusals.{number_of}
use Rattle.runs.specs.Channel.{flow_channel}
use Rattle.runs.specs.Histories.{pending_after}
use Rattle.stream.proofs.Views.{begins, line_told, held}
use Rattle.stream.specs.Streams.{View, view_of, with_told}
use Rattle.player.specs.Outputs.{State, set_up_state, lines_of, lines_after}
use Rattle.player.specs.Players.{Prints, AllPrinted}
use Rattle.player.specs.Playing.{most_room, output_of}
use Rattle.player.specs.declared.driving.Player.{Player}
use Rattle.player.proofs.Pauses.{worked_on, fault_told}
use Rattle.player.proofs.Printing.{if_ok, both, all_held, driven}
use Rattle.player.proofs.Sections.{all_printed}
use Rattle.player.proofs.playing.run.Goals as goal

pub returns-in-Err-clause-printed : goal.returns-in-Err-clause-printed
returns-in-Err-clause-printed g c = λ bytes out e f.
    let player = c.new-player.result in
    let line = refusal_line (number_of c.refusal.result) in
    let begun : View g.row.R.Denot g.row.W.Denot = view_of c.play.new.driver.stream in
    let streams = begins g.R.Read.remaining g.W.Write.contents begun c.args.input c.args.output bytes out (ap (λ (p : Player g.row.R.Denot g.row.W.Denot). view_of p.stream) (c.in-Err.ensures.unasked refl) ∙ c.new-player.ensures.stream) e f in
    let told' = line_told g.R.Read.remaining g.W.Write.contents begun (with_told true line begun) true line (events_of bytes) (rest_of bytes) out refl refl streams in
    both (length (events_of bytes)) c.refuse.result _
    (rw (← c.in-Err.ensures.fault, fault_told c.in-Err.fault, ← c.refusal.ensures) (if_ok c.refuse.result _ _ (λ w h. held g.R.Read.remaining g.W.Write.contents (with_told true line begun) w (events_of bytes) (rest_of bytes) (out ++ line) h told') c.refuse.ensures.printed))
    c.refuse.ensures.interrupted

pub returns-in-Err-clause-promised : goal.returns-in-Err-clause-promised
returns-in-Err-clause-promised g c = all_printed c.args.format c.args.supply c.args.file.now

pub returns-in-Err-clause-cuts : goal.returns-in-Err-clause-cuts
returns-in-Err-clause-cuts g c = cut_anywhere

pub loop-init : goal.loop-init
loop-init g c = (
  c.play.auto.buffer,
  λ bytes out e f.
      let records = file_records c.args.file.now in
      let most = length (events_of bytes) in
      let p = c.new-player.result in
      let start = set_up_state c.args.supply records in
      let total = out ++ (lines_of c.args.format start (events_of bytes) ++ rest_line (rest_of bytes)) in
      let played = c.in-Ok.ensures.played in
      let pending = pending_after flow_channel [] played.trace in
      let s : State = record { supply = c.args.supply; records = records_in c.in-Ok.panel; pending = pending } in
      let streams = begins g.R.Read.remaining g.W.Write.contents (view_of p.stream) c.args.input c.args.output bytes out c.new-player.ensures.stream e f in
      let prints : Prints g.R.Read.remaining g.W.Write.contents (view_of p.stream) (lines_of c.args.format start) 0 most total = record { events = events_of bytes; rest = rest_of bytes; out = out; streams = streams; few = omega arith; all = refl } in
      let stopped = driven g.R.Read.remaining g.W.Write.contents most_room c.args.supply (omega arith) p c.play.new.driver records s.records [] pending played.trace played.driven played.underway.ran 0 most total c.new-player.ensures.going (rw c.new-player.ensures.format prints) in
      rw (← c.in-Ok.ensures.fault) (omega arith, s, record { before = records; trace = played.trace; underway = played.underway; records_are = refl; pending_is = refl }, 0 + length played.trace, omega arith, stopped),
)

pub returns-in_err-attend-in-Waiting-clause-promised : goal.returns-in_err-attend-in-Waiting-clause-promised
returns-in_err-attend-in-Waiting-clause-promised g c = all_printed c.args.format c.args.supply c.args.file.now

pub returns-in_err-attend-in-Waiting-clause-cuts : goal.returns-in_err-attend-in-Waiting-clause-cuts
returns-in_err-attend-in-Waiting-clause-cuts g c = cut_anywhere

pub returns-in-Ended-clause-printed : goal.returns-in-Ended-clause-printed
returns-in-Ended-clause-printed g c = λ bytes out e f.
    let i = c.loop.invariant.1 bytes out e f in
    let most = length (events_of bytes) in
    let total = out ++ output_of c.args.format c.args.supply c.args.file.now bytes in
    let all : AllPrinted g.R.Read.remaining g.W.Write.contents (view_of c.loop.player.stream) total = rw c.in-Ended.is at i.5 in
    both most c.finish.result _ (if_ok c.finish.result _ _ (λ w h. all_held g.R.Read.remaining g.W.Write.contents (view_of c.loop.player.stream) total w all h) c.finish.ensures.printed) c.finish.ensures.interrupted

pub returns-in-Ended-clause-promised : goal.returns-in-Ended-clause-promised
returns-in-Ended-clause-promised g c = all_printed c.args.format c.args.supply c.args.file.now

pub returns-in-Ended-clause-cuts : goal.returns-in-Ended-clause-cuts
returns-in-Ended-clause-cuts g c = cut_anywhere

pub returns-in-Interrupted-clause-printed : goal.returns-in-Interrupted-clause-printed
returns-in-Interrupted-clause-printed g c = λ bytes out e f. let i = c.loop.invariant.1 bytes out e f in rw c.in-Interrupted.is at i.5

pub returns-in-Interrupted-clause-promised : goal.returns-in-Interrupted-clause-promised
returns-in-Interrupted-clause-promised g c = all_printed c.args.format c.args.supply c.args.file.now

pub returns-in-Interrupted-clause-cuts : goal.returns-in-Interrupted-clause-cuts
returns-in-Interrupted-clause-cuts g c = cut_anywhere

pub returns-in-Going-clause-printed : goal.returns-in-Going-clause-printed
returns-in-Going-clause-printed g c = λ bytes out e f. let i = c.loop.invariant.1 bytes out e f in rw c.in-Going.is at i.5

pub returns-in-Going-clause-promised : goal.returns-in-Going-clause-promised
returns-in-Going-clause-promised g c = all_printed c.args.format c.args.supply c.args.file.now

pub returns-in-Going-clause-cuts : goal.returns-in-Going-clause-cuts
returns-in-Going-clause-cuts g c = cut_anywhere

pub loop-preserved : goal.loop-preserved
loop-preserved g c = (
  c.work_on.auto.buffer ∙ c.loop.invariant.0,
  λ bytes out e f.
      let i = c.loop.invariant.1 bytes out e f in
      let most = length (events_of bytes) in
      let total = out ++ output_of c.args.format c.args.supply c.args.file.now bytes in
      let prints : Prints g.R.Read.remaining g.W.Write.contents (view_of c.loop.player.stream) (lines_after c.loop.player.format i.1 (Ok (pauses c.in-Waiting.pause))) (suc i.3) most total = rw c.in-Waiting.is at i.5 in
      let a = c.in_ok-attend-in-Waiting.ensures.prints i.1 (suc i.3) most total (i.2, prints) in
      let o = worked_on g.R.Read.remaining g.W.Write.contents _ c.loop.buffer c.work_on.new.buffer (omega (arith, c.loop.invariant.0)) c.attend.new.self c.work_on.new.driver c.attend.new.panel c.work_on.new.panel a.state a.stands c.work_on.ensures c.work_on.ensures.driven (suc i.3) most total c.in_ok-attend-in-Waiting.ensures.goes a.prints in
      (omega (arith, i.4, prints.few), o.0, o.1, o.2, omega (arith, i.4, o.3), o.4),
)

-- an event was taken at each turn
pub returns-clause-printed : goal.returns-clause-printed
returns-clause-printed g c = λ bytes out e f. let i = c.loop.invariant.1 bytes out e f in omega (arith, i.0, c.loop-test.false)

pub returns-clause-promised : goal.returns-clause-promised
returns-clause-promised g c = all_printed c.args.format c.args.supply c.args.file.now

pub returns-clause-cuts : goal.returns-clause-cuts
returns-clause-cuts g c = cut_anywhere
