use Rattle.std.proofs.Common.{◌≡◌, Some, Ok, sym, ap, ◌∙◌, length-set, rules}
use Rattle.std.proofs.ByRecursion.{All-set}
use Rattle.record.specs.Lawful.{Lawful}
use Rattle.rack.specs.Edits.{edit_of}
use Rattle.rack.specs.Meaning.{channel_of}
use Rattle.rack.proofs.Meaning.{channel_lawful}
use Rattle.rack.proofs.Puts.{puts_at}
use Rattle.shelf.specs.Rows.{Faultless, records_in}
use Rattle.shelf.proofs.Rows.{refill_set, set_row, answers_at, rows_written, records_written}
use Rattle.shelf.proofs.shelf_rack.ShelfRack.write.Goals as goal

pub invariant_of-self : goal.invariant_of-self
invariant_of-self c =
    let s = c.args.self.now in
    let records = records_in s.rows.items in
    let r = c.apply.new.«record» in
    let row = c.encode.result in
    let found : channel_of records c.args.channel ≡ Some c.record_at-record.result = sym c.in_ok-row.ensures.value ∙ ap Some (sym c.record_at-record.ensures) in
    let lawful : Lawful r = c.apply.ensures.lawful (channel_lawful records c.args.channel c.record_at-record.result s.lawful found) in
    let after = refill_set s.rows.items c.deref_mut.result.now c.args.channel row c.deref_mut.ensures.value in
    record {
      faultless = rw after (All-set Faultless s.rows.items c.args.channel row (c.encode.ensures.back lawful).faultless s.faultless);
      some = rw (after, length-set s.rows.items c.args.channel row) s.some;
      lawful = rw (after, set_row s.rows.items c.args.channel row r (c.encode.ensures.back lawful).same) (All-set Lawful records c.args.channel r lawful s.lawful);
    }

pub returns : goal.returns
returns c =
    let rows = c.args.self.now.rows.items in
    let records = records_in rows in
    let channel = c.args.channel in
    let edit = edit_of c.args.change in
    let old = c.record_at-record.result in
    let r = c.apply.new.«record» in
    let row = c.encode.result in
    let found : channel_of records channel ≡ Some old = sym c.in_ok-row.ensures.value ∙ ap Some (sym c.record_at-record.ensures) in
    let lawful : Lawful r = c.apply.ensures.lawful (channel_lawful records channel old c.args.self.now.lawful found) in
    let new = refill_set rows c.deref_mut.result.now channel row c.deref_mut.ensures.value in
    let answer = answers_at rows channel edit old r row found c.in_ok-apply.ensures.answer c.apply.ensures.after in
    let after = records_written rows channel edit old r row found c.in_ok-apply.ensures.answer c.apply.ensures.after _ new (c.encode.ensures.back lawful).same in
    record {
      answer = answer;
      after = after;
      puts = puts_at records _ channel edit c.args.self.now.lawful (Ok tt) answer after;
      once = record { answers = answer; after = rows_written rows channel edit old r row found c.in_ok-apply.ensures.answer c.apply.ensures.after _ new c.encode.ensures.value };
      same = search rules;
    }
