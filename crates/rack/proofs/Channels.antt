-- The record of a channel.
use Rattle.std.proofs.Common.{◌≡◌, ℕ, ◌≤◌, ltb, leb, List, length, sym, ◌∙◌, inl, inr, arith}
use Rattle.std.proofs.lemmas.Bool.{lt-ltb, le-leb, le-ltb, and_from, and_left, cond-true, cond-false, cases_lt}
use Rattle.std.proofs.lemmas.Option.{slice_get_past}
use Rattle.record.specs.declared.Record.{Record}
use Rattle.rack.specs.Meaning.{told, record_at, channel_of}

-- up to channel 14 the number told makes no difference
pub channel_plain : (l : List Record) (c : ℕ) → c ≤ 14 → channel_of l c ≡ record_at l c
channel_plain l c h = elim (cases_lt c (length l)) [
  | inl k ↦ cond-true _ _ _ (and_from (ltb c (told l)) (leb c 14) (lt-ltb c (told l) (omega arith)) (le-leb c 14 h))
  | inr k ↦ cond-false _ _ _ (and_left (ltb c (told l)) (leb c 14) (le-ltb c (told l) (omega arith))) ∙ sym (slice_get_past l c k)
]
