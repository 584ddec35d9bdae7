use Rattle.std.proofs.Common.{is_ok, sym, ap, arith, rules}
use Rattle.rack.proofs.Lawful.{stored_lawful}
use Rattle.rack.proofs.Puts.{puts_after}
use Rattle.rack.specs.Edits.{edit_of}
use Rattle.rack.proofs.writes.apply.Goals as goal

pub returns-in_ok-admitted-in-Setpoint-clause-lawful : goal.returns-in_ok-admitted-in-Setpoint-clause-lawful
returns-in_ok-admitted-in-Setpoint-clause-lawful c = λ h.
    let s = stored_lawful c.in-Setpoint.pattern c.args.«record».now.fields.ceiling h.fields.ceiling (ap is_ok (sym c.in_ok-admitted-in-Setpoint.ensures)) in
    search rules

pub returns-in-Text-clause-puts : goal.returns-in-Text-clause-puts
returns-in-Text-clause-puts c =
    puts_after (edit_of c.args.change) c.args.«record».now _ (omega arith) c.put_text.result (search rules) (search rules)
