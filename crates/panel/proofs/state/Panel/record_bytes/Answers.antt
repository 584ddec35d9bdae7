use Rattle.std.proofs.Common.{Some, sym, ◌∙◌, ap, is_some}
use Rattle.std.specs.Option.{option_map}
use Rattle.record.specs.Layout.{encoded}
use Rattle.panel.specs.Panels.{records_in}
use Rattle.panel.proofs.Places.{channel_here}
use Rattle.panel.proofs.state.Panel.record_bytes.Goals as goal

pub returns : goal.returns
returns g c =
    let p = c.args.self.now in
    ap Some c.encode.ensures.value ∙ ap (option_map encoded) (sym c.in_ok-record.was ∙ (c.record_of.ensures ∙ channel_here p.supply (records_in p) c.args.channel p.few (ap is_some c.in_ok-self.was)))

pub returns-in_err-record : goal.returns-in_err-record
returns-in_err-record g c =
    let p = c.args.self.now in
    c.from_residual-in_err-record.ensures ∙ ap (option_map encoded) (sym c.in_err-record.was ∙ (c.record_of.ensures ∙ channel_here p.supply (records_in p) c.args.channel p.few (ap is_some c.in_ok-self.was)))
