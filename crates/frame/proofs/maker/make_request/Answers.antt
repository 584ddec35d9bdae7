use Rattle.std.proofs.lemmas.Result.{err_from_is_err_and}
use Rattle.refusals.specs.Refusals.{number_of}
use Rattle.frame.specs.Views.{requested}
use Rattle.frame.proofs.Making.{address_made, address_refused, made_back}
use Rattle.frame.proofs.maker.make_request.Goals as goal

pub returns : goal.returns
returns c =
    let e = address_made c.in_ok-try_from.field-0 c.args.request.address.now c.in_ok-try_from.ensures in
    let q = requested c.args.request in
    record {
      fills = rw (← e) c.make.ensures.fills;
      back = made_back q c.make.new.out c.make.result (rw (← e) c.make.ensures.sound);
    }

pub returns-in_err-try_from : goal.returns-in_err-try_from
returns-in_err-try_from c =
    let p = err_from_is_err_and c.from_residual.result c.from_residual.ensures.1 in
    rw (p.1, p.2) (record { fills = address_refused (requested c.args.request) c.args.out.now (number_of c.in_err-try_from.field-0.0) c.in_err-try_from.ensures; back = tt })
