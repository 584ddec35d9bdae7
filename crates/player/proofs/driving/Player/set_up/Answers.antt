use Rattle.std.proofs.Common.{true, refl, sym, ap, subst, ◌++◌}
use Rattle.recording.specs.Lines.{refusal_line}
use Rattle.refusals.specs.Refusals.{number_of}
use Rattle.stream.specs.Streams.{view_of}
use Rattle.player.specs.Outputs.{EventPlayed, set_up_state, set_up_played, set_up_line, lines_of}
use Rattle.player.specs.Players.{Prints}
use Rattle.player.proofs.Pauses.{set_up}
use Rattle.player.proofs.Printing.{line_printed}
use Rattle.player.proofs.driving.Player.set_up.Goals as goal

pub returns-in_ok-print-in-Ok-clause-set_up : goal.returns-in_ok-print-in-Ok-clause-set_up
returns-in_ok-print-in-Ok-clause-set_up g c = λ s taken most total w.
    let stands = w.0 in
    let after = set_up_state c.args.supply s.records in
    let refusal = rw (← stands.records_are) at c.in-Ok.ensures.refusal in
    let played = ap (set_up_played s c.args.supply) (sym refusal) in
    let before = view_of c.args.self.now.stream in
    record {
      state = after;
      stands = set_up s c.args.supply c.args.panel.now c.set_up.new.self stands c.in-Ok.ensures.rack c.in-Ok.ensures.underway;
      prints = line_printed g.R.Read.remaining g.W.Write.contents before (view_of c.print.new.self) true set_up_line (lines_of c.args.self.now.format after) taken most total c.in_ok-print-in-Ok.ensures refl
          (subst (λ (q : EventPlayed). Prints g.R.Read.remaining g.W.Write.contents before (λ events. q.line ++ lines_of c.args.self.now.format q.after events) taken most total) played w.1);
    }

pub returns-in_ok-tell-in-Err-clause-set_up : goal.returns-in_ok-tell-in-Err-clause-set_up
returns-in_ok-tell-in-Err-clause-set_up g c = λ s taken most total w.
    let stands = w.0 in
    let refusal = rw (← stands.records_are) at c.in-Err.ensures.refusal in
    let played = ap (set_up_played s c.args.supply) (sym refusal) in
    let before = view_of c.args.self.now.stream in
    record {
      state = s;
      stands = rw (c.in-Err.ensures.same refl) stands;
      prints = line_printed g.R.Read.remaining g.W.Write.contents before (view_of c.tell.new.self) true (refusal_line (number_of c.in-Err.refusal)) (lines_of c.args.self.now.format s) taken most total c.in_ok-tell-in-Err.ensures.told refl
          (subst (λ (q : EventPlayed). Prints g.R.Read.remaining g.W.Write.contents before (λ events. q.line ++ lines_of c.args.self.now.format q.after events) taken most total) played w.1);
    }
