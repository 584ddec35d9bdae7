-- The records of a shelf by their rows.
use Rattle.std.proofs.Common.{◌≡◌, ℕ, ◌<◌, ◌≤◌, ltb, leb, List, length, set, Some, None, Ok, Option, MatchOption, Bor, sym, ap, ◌∙◌, arith, length-set}
use Rattle.std.specs.List.{refill, HoldsAt}
use Rattle.std.specs.Option.{option_map}
use Rattle.std.proofs.lemmas.Bool.{and_left, le-ltb, cond-false}
use Rattle.std.proofs.lemmas.Option.{slice_get-map, slice_get-get_or}
use Rattle.rack.specs.Changes.{answer_of, record_after, written}
use Rattle.rack.specs.Edits.{Edit}
use Rattle.rack.specs.Meaning.{told, channel_of, written_at, answer_at, after_at}
use Rattle.rack.proofs.Channels.{channel_plain}
use Rattle.rack.proofs.Meaning.{written_is}
use Rattle.std.proofs.lemmas.List.{length-map, map-set, take_all, drop_all, append-nil}
use Rattle.record.specs.declared.Record.{Record}
use Rattle.record.specs.Layout.{decoded, encoded}
use Rattle.shelf.specs.Rows.{records_in, rows_after}

-- rows after a write of one
pub refill_set : (rows slice : List (List ℕ)) (c : ℕ) (row : List ℕ) → slice ≡ rows → refill (length rows) rows (set slice c row) ≡ set rows c row
refill_set rows slice c row e = rw (e, length-set rows c row, drop_all (length rows) rows (omega arith), append-nil (set rows c row)) (take_all (length rows) (set rows c row) (omega (arith, length-set rows c row)))

-- the records after it
pub set_row : (rows : List (List ℕ)) (c : ℕ) (row : List ℕ) (r : Record) → decoded row ≡ r → records_in (set rows c row) ≡ set (records_in rows) c r
set_row rows c row r e = map-set decoded rows c row ∙ ap (set (records_in rows) c) e

-- the record of a channel, from its row
pub row_record : (rows : List (List ℕ)) (c : ℕ) (got : Option (Bor (List ℕ))) → length rows ≤ 15 → MatchOption got (length rows ≤ c) (λ x. (c < length rows) × HoldsAt (λ y. x.now ≡ y) rows c)
    → option_map (λ row. decoded row.now) got ≡ channel_of (records_in rows) c
row_record rows c None few h = sym (cond-false _ _ _ (and_left (ltb c (told (records_in rows))) (leb c 14) (le-ltb c (told (records_in rows)) (omega (arith, length-map rows decoded)))))
row_record rows c (Some x) few h = sym (channel_plain (records_in rows) c (omega (arith, h.0)) ∙ (slice_get-map decoded rows c ∙ ap (option_map decoded) (slice_get-get_or rows c x.now h.0 ∙ ap Some (sym (h.1 x.now)))))

-- a write that was accepted, by what it made of the channel's row
module _ (rows : List (List ℕ)) (c : ℕ) (edit : Edit) (old r : Record) (row : List ℕ)
    (found : channel_of (records_in rows) c ≡ Some old) (answer : Ok tt ≡ answer_of (written edit old)) (same : r ≡ record_after (written edit old) old) where
  made : written_at (records_in rows) c edit ≡ Ok r
  made = written_is (records_in rows) c edit old r found answer same

  pub answers_at : Ok tt ≡ answer_at (records_in rows) c edit
  answers_at = sym (ap answer_of made)

  pub rows_written : (new : List (List ℕ)) → new ≡ set rows c row → row ≡ encoded r → new ≡ rows_after (written_at (records_in rows) c edit) rows c
  rows_written new e i = rw made (e ∙ ap (set rows c) i)

  pub records_written : (new : List (List ℕ)) → new ≡ set rows c row → decoded row ≡ r → records_in new ≡ after_at (records_in rows) c edit
  records_written new e i = rw made (ap records_in e ∙ set_row rows c row r i)
