use Rattle.std.proofs.Common.{◌≡◌, ◌-◌, ◌≤◌, ℕ, List, min, take, drop, arith, ap, subst, refl, Err, MatchResult, IsOkAnd, sym, ◌∙◌, rules, length}
use Rattle.calls.specs.declared.Response.TheVariants.{Taken}
use native.Mathlib.Nat.{sub-zero}
use Rattle.std.proofs.Math.Nat.{min-le_right}
use Rattle.std.proofs.lemmas.List.{length-take-le, take-append-drop}
use Rattle.calls.specs.Views.{call_of}
use Rattle.panel.specs.Panels.{Does, Through, buffer_of}
use Rattle.panel.specs.Working.{within}
use Rattle.runs.specs.Channel.{flow_channel, sample, key}
use Rattle.runs.specs.Traces.{Call, gap, ◌▸◌}
use Rattle.panel.proofs.Through.{one_write}
use Rattle.panel.proofs.Working.{performed, extended}
use Rattle.panel.proofs.driving.perform.Goals as goal
use Rattle.panel.proofs.driving.perform.Goals.{in-Character, in-Sample, in-Key}

pub returns : goal.returns
returns g c =
    let cases : MatchResult c.match-call.result (λ u. IsOkAnd c.map.result (λ v. v ≡ Taken)) (λ e. c.map.result ≡ Err e) = search rules in
    let done = performed {D = g.D.Driver} c.args.panel.now c.match-call.panel c.args.driver.now c.hear.new.self c.args.buffer.now c.args.call c.match-call.result c.map.result c.match-call.call (within (length c.args.buffer.now) (call_of c.args.call)) in
    elim c.match-call.branch [
      | in-Character w ↦ done (w.call-is ∙ sym w.in-Character.is) (rw w.in-Character.is refl) cases c.hear.ensures (rw (w.panel-is, w.result-is, w.in-Character.is) w.character-result.ensures.does) (rw (w.panel-is, w.in-Character.is) w.character-result.ensures.rack)
      | in-Sample w ↦ done (w.call-is ∙ sym w.in-Sample.is) (rw w.in-Sample.is refl) cases c.hear.ensures (rw (w.panel-is, w.result-is, w.in-Sample.is) w.sample-result.ensures.does) (rw (w.panel-is, w.result-is, w.in-Sample.is) (one_write c.args.panel.now w.sample-result.new.self w.in-Sample.channel (sample w.in-Sample.reading) _ w.sample-result.ensures.once))
      | in-Key w ↦ done (w.call-is ∙ sym w.in-Key.is) (rw w.in-Key.is refl) cases c.hear.ensures (rw (w.panel-is, w.result-is, w.in-Key.is) w.key-result.ensures.does) (rw (w.panel-is, w.result-is, w.in-Key.is) (one_write c.args.panel.now w.key-result.new.self w.in-Key.channel (key w.in-Key.«open») _ w.key-result.ensures.once))
    ]

pub returns-in-Gap : goal.returns-in-Gap
returns-in-Gap g c =
    let buffer = c.args.buffer.now in
    let least = c.min-least.result - 0 in
    let front : List ℕ = take least buffer in
    let most : least ≤ length buffer = omega (arith, c.min-least.ensures, min-le_right c.in-Gap.room (length buffer)) in
    let long : length front ≡ min c.in-Gap.room (length buffer) = length-take-le least buffer most ∙ (sub-zero c.min-least.result ∙ c.min-least.ensures) in
    let same : gap (length front) ≡ within (length buffer) (call_of c.args.call) = ap gap long ∙ rw c.in-Gap.is refl in
    let made = c.end.ensures in
    record {
      result = made.result;
      does = subst (λ (k : Call flow_channel). Does c.args.panel.now c.end.new.panel k made.result) same made.does;
      through = subst (λ (k : Call flow_channel). Through c.args.panel.now c.end.new.panel k made.result) same made.through;
      heard = subst (λ (k : Call flow_channel). g.D.Driver.hears c.args.driver.now c.end.new.driver (k ▸ made.result)) same made.heard;
      left = extended made.result front c.end.new.out (drop least buffer) made.left c.end.auto.out ∙ ap (buffer_of made.result) (take-append-drop least buffer);
    }
