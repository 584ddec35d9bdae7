use Rattle.std.proofs.Common.{length, ap, sym, ◌∙◌, arith}
use Rattle.std.specs.Option.{option_map}
use Rattle.record.specs.Layout.{decoded}
use Rattle.shelf.proofs.Rows.{row_record}
use Rattle.shelf.proofs.shelf.Shelf.row.Goals as goal

pub returns-clause-value : goal.returns-clause-value
returns-clause-value c = ap (option_map (λ row. decoded row.now)) (sym c.ok_or.ensures.ok_part) ∙ row_record c.args.self.now.rows.items c.args.channel c.get.result (omega (arith, c.deref.ensures.1, ap length c.deref.ensures.0)) (rw c.deref.ensures.0 at c.get.ensures.lookup.3)
