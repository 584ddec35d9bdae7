use Rattle.std.proofs.Common.{◌≡◌, subst, rules}
use Rattle.line.specs.Codes.{code_of, given?, FirstGiven}
use Rattle.line.proofs.Turns.{code_first}
use Rattle.line.proofs.judging.response_code.Goals as goal

pub returns-in-Some-WriteSetpoint-2-clause-first : goal.returns-in-Some-WriteSetpoint-2-clause-first
returns-in-Some-WriteSetpoint-2-clause-first g c =
    let a = g.A.Allotting.allotment c.args.allotting.now in
    let e : code_of c.args.command c.args.«data».now c.args.fields a ≡ c.setpoint_code.result = search rules in
    subst (FirstGiven (given? c.args.command c.args.«data».now c.args.fields a)) e (code_first c.args.command c.args.«data».now c.args.fields a)
