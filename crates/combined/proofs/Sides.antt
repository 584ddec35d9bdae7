-- The records of two racks side by side after a write to one of them.
use Rattle.std.proofs.Common.{◌≡◌, ℕ, ◌-◌, ◌<◌, ◌≤◌, List, ◌++◌, length, Ok, Err, Result, sym, refl, ap}
use Rattle.std.proofs.lemmas.List.{set-append_left, set-append_right}
use Rattle.record.specs.declared.Record.{Record}
use Rattle.combined.specs.declared.side_by_side.Side.TheVariants.{Left, Right}
use Rattle.rack.specs.Edits.{Edit}
use Rattle.rack.specs.Meaning.{written_at, records_after}
use Rattle.combined.specs.Sides.{FoundAt}

after_left : (w : Result Record ℕ) (l l' r : List Record) (channel c : ℕ) → c ≡ channel → channel < length l → l' ≡ records_after w l c → l' ++ r ≡ records_after w (l ++ r) channel
after_left (Ok x) l l' r channel c same within e = rw (e, same) (sym (set-append_left l r channel x within))
after_left (Err n) l l' r channel c same within e = ap (λ (xs : List Record). xs ++ r) e

after_right : (w : Result Record ℕ) (l r r' : List Record) (channel c : ℕ) → c ≡ channel - length l → length l ≤ channel → r' ≡ records_after w r c → l ++ r' ≡ records_after w (l ++ r) channel
after_right (Ok x) l r r' channel c same past e = rw (e, same) (sym (set-append_right l r (length l) channel x refl past))
after_right (Err n) l r r' channel c same past e = ap (λ (xs : List Record). l ++ xs) e

module _ (l r : List Record) (channel c : ℕ) (edit : Edit) where
  pub records_left : (l' : List Record) → FoundAt l r channel (Left c) → l' ≡ records_after (written_at l c edit) l c → l' ++ r ≡ records_after (written_at (l ++ r) channel edit) (l ++ r) channel
  records_left l' f e = rw f.0 (after_left (written_at l c edit) l l' r channel c f.1 f.2 e)

  pub records_right : (r' : List Record) → FoundAt l r channel (Right c) → r' ≡ records_after (written_at r c edit) r c → l ++ r' ≡ records_after (written_at (l ++ r) channel edit) (l ++ r) channel
  records_right r' f e = rw f.0 (after_right (written_at r c edit) l r r' channel c f.1 f.2 e)
