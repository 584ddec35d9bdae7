use Rattle.std.proofs.Common.{length, Err, Option, arith, subst, ap, ◌∙◌}
use Rattle.std.specs.Option.{option_map}
use Rattle.std.proofs.lemmas.Result.{err_from_is_err_and}
use Rattle.line.specs.Characters.{Reception}
use Rattle.line.specs.Views.{reception}
use Rattle.serving.specs.Serving.{Lawfully, answering_in, served}
use Rattle.panel.specs.Panels.{records_in}
use Rattle.panel.proofs.Gaps.{count_after, pending_lawful}
use Rattle.panel.proofs.Panels.{few_after}
use Rattle.panel.proofs.Results.{gap_ended, gap_failed, gap_same}
use Rattle.panel.proofs.Working.{goes_on}
use Rattle.panel.proofs.state.Panel.gap.Goals as goal

pub returns : goal.returns
returns g c =
    let p = c.args.self.now in
    let x = option_map reception c.received.result in
    let k = gap_ended p c.serve.new.rack _ c.args.out.now c.serve.new.out x c.received.ensures.value c.clear.new.self c.in_ok-answer.answer c.in_ok-answer.ensures.serves c.clear.ensures (omega arith) in
    record {
      does = k.does;
      on = goes_on k.does;
      buffer = k.left;
      bound = k.bound;
      writes = k.writes;
      tells = k.tells;
      idle = k.idle;
      law = pending_lawful p.supply (records_in p) p.receiver c.args.out.now (subst (λ (y : Option Reception). Lawfully y (answering_in (served p.supply (records_in p) y c.args.out.now))) c.received.ensures.value c.in_ok-answer.ensures.law);
      same = λ e. absurd (cc);
    }

pub invariant_of-self-2 : goal.invariant_of-self-2
invariant_of-self-2 g c =
    let p = c.args.self.now in
    record { few = few_after p.supply (length (records_in p)) _ p.few (ap length c.serve.ensures.serves.leaves ∙ count_after _ (records_in p)) }

pub returns-in_err-answer : goal.returns-in_err-answer
returns-in_err-answer g c =
    let p = c.args.self.now in
    let x = option_map reception c.received.result in
    let d = c.in_err-answer.field-0.0 in
    let e = err_from_is_err_and c.from_residual.result c.from_residual.ensures.1 in
    let k = gap_failed p c.serve.new.rack _ c.args.out.now c.serve.new.out x c.received.ensures.value d c.from_residual.result (e.1 ∙ ap Err e.2) c.in_err-answer.ensures.serves in
    record {
      does = k.does;
      on = goes_on k.does;
      buffer = k.left;
      bound = k.bound;
      writes = k.writes;
      tells = k.tells;
      idle = k.idle;
      law = pending_lawful p.supply (records_in p) p.receiver c.args.out.now (subst (λ (y : Option Reception). Lawfully y (answering_in (served p.supply (records_in p) y c.args.out.now))) c.received.ensures.value c.in_err-answer.ensures.law);
      same = λ _. gap_same p c.serve.new.rack _ c.args.out.now c.serve.new.out x c.received.ensures.value d c.in_err-answer.ensures.serves;
    }
