-- Identities, channel by channel.
use Rattle.std.proofs.Common.{◌≡◌, ℕ, zero, suc, ◌+◌, ◌-◌, ◌≤◌, Bool, false, ◌||◌, List, [], ◌∷◌, length, drop, refl, ap, ◌∙◌, sym, add-one, arith}
use Rattle.std.specs.List.{list_any, range_with_len}
use Rattle.std.proofs.lemmas.List.{drop_all}
use Rattle.record.specs.declared.Fields.{Fields}
use Rattle.record.specs.declared.Record.{Record}
use Rattle.rack.specs.Meaning.{record_at}
use Rattle.rack.proofs.Channels.{channel_plain}
use Rattle.setup.specs.SetUps.{record_has?, identity_at?, among?, record_among?, same_identity_later?, any_same_identity?}

-- a test of the channels from one on, by a test of each
module _ (whole : List Record → Bool) (each : ℕ → Bool) (records : List Record) (few : length records ≤ 15) (none : whole [] ≡ false)
    (step : (i : ℕ) → i ≤ 14 → whole (drop i records) ≡ (each i || whole (drop (i + 1) records))) where
  any_from : (n i : ℕ) → length records - i ≡ n → list_any each (range_with_len i n) ≡ whole (drop i records)
  any_from zero i e = sym (ap whole (drop_all i records (omega arith)) ∙ none)
  any_from (suc n) i e = rw (any_from n (i + 1) (omega arith)) (sym (step i (omega arith)))

has_step : (f : Fields) (records : List Record) (i : ℕ) → among? f (drop i records) ≡ (record_has? f (record_at records i) || among? f (drop (suc i) records))
has_step f [] zero = refl
has_step f [] (suc i) = refl
has_step f (r ∷ records) zero = refl
has_step f (r ∷ records) (suc i) = has_step f records i

same_identity_step : (records : List Record) (i : ℕ) → any_same_identity? (drop i records) ≡ (record_among? (drop (suc i) records) (record_at records i) || any_same_identity? (drop (suc i) records))
same_identity_step [] zero = refl
same_identity_step [] (suc i) = refl
same_identity_step (r ∷ records) zero = refl
same_identity_step (r ∷ records) (suc i) = same_identity_step records i

module _ (records : List Record) (few : length records ≤ 15) where
  pub among_from : (f : Fields) (n i : ℕ) → length records - i ≡ n → list_any (identity_at? f records) (range_with_len i n) ≡ among? f (drop i records)
  among_from f = any_from (among? f) (identity_at? f records) records few refl (λ i k. rw (channel_plain records i k, add-one i) (has_step f records i))

  pub same_identity_from : (n i : ℕ) → length records - i ≡ n → list_any (same_identity_later? records) (range_with_len i n) ≡ any_same_identity? (drop i records)
  same_identity_from = any_from any_same_identity? (same_identity_later? records) records few refl (λ i k. rw (channel_plain records i k, add-one i) (same_identity_step records i))
