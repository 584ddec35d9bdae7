-- Records of a list by their channels, and writes to them.
use Rattle.std.proofs.Common.{◌≡◌, ℕ, zero, suc, Bool, true, false, cond, ◌&&◌, ltb, leb, List, [], ◌∷◌, set, Some, None, Ok, Err, Option, Result, sym, ap, subst, arith}
use Rattle.std.specs.List.{AllByRecursion}
use Rattle.std.proofs.lemmas.Option.{none-some, same_Some}
use Rattle.record.specs.Lawful.{Lawful}
use Rattle.record.specs.declared.Record.{Record}
use Rattle.rack.specs.Changes.{answer_of, record_after, written}
use Rattle.rack.specs.Edits.{Edit}
use Rattle.rack.specs.Meaning.{told, record_at, channel_of, records_after, written_at}

accepted_after : (w : Result Record ℕ) (r old : Record) (records : List Record) (channel : ℕ) → Ok tt ≡ answer_of w → r ≡ record_after w old → set records channel r ≡ records_after w records channel
accepted_after (Ok x) r old records channel e k = ap (set records channel) k
accepted_after (Err m) r old records channel e k = cc

-- an accepted one replaces the channel's record
pub accepted_at : (records : List Record) (channel : ℕ) (edit : Edit) (old r : Record) → channel_of records channel ≡ Some old → Ok tt ≡ answer_of (written edit old) → r ≡ record_after (written edit old) old → set records channel r ≡ records_after (written_at records channel edit) records channel
accepted_at records channel edit old r e a k = rw e (accepted_after (written edit old) r old records channel a k)

record_lawful : (records : List Record) (n : ℕ) (r : Record) → AllByRecursion Lawful records → record_at records n ≡ Some r → Lawful r
record_lawful [] n r h e = absurd (none-some r e)
record_lawful (x ∷ records) zero r h e = subst Lawful (same_Some x r e) h.0
record_lawful (x ∷ records) (suc n) r h e = record_lawful records n r h.1 e

from_cond : (b : Bool) (o : Option Record) (r : Record) → cond b o None ≡ Some r → o ≡ Some r
from_cond true o r e = e
from_cond false o r e = cc

-- the record of a channel is lawful
pub channel_lawful : (records : List Record) (c : ℕ) (r : Record) → AllByRecursion Lawful records → channel_of records c ≡ Some r → Lawful r
channel_lawful records c r h e = record_lawful records c r h (from_cond (ltb c (told records) && leb c 14) (record_at records c) r e)

accepted_is : (w : Result Record ℕ) (r old : Record) → Ok tt ≡ answer_of w → r ≡ record_after w old → w ≡ Ok r
accepted_is (Ok x) r old e k = ap Ok (sym k)
accepted_is (Err m) r old e k = absurd (let z : ◌≡◌ {A = ℕ} 0 1 = cc in omega arith)

-- what an accepted write makes of the channel's record
pub written_is : (records : List Record) (channel : ℕ) (edit : Edit) (old r : Record) → channel_of records channel ≡ Some old → Ok tt ≡ answer_of (written edit old) → r ≡ record_after (written edit old) old → written_at records channel edit ≡ Ok r
written_is records channel edit old r e a k = rw e (accepted_is (written edit old) r old a k)
