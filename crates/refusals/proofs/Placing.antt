-- Bytes written into a buffer one part after another.
use Rattle.std.proofs.Common.{◌≡◌, ℕ, ◌+◌, ◌≤◌, List, ◌++◌, length, take, drop, sym, refl, ap, ◌∙◌, append_assoc, arith, length-append}
use Rattle.std.proofs.lemmas.List.{take_at, drop_at, drop-drop, length-take-le}
use Rattle.refusals.specs.Filling.{placed}

module _ (at : ℕ) (p buffer : List ℕ) (room : at + length p ≤ length buffer) where
  front : length (take at buffer ++ p) ≡ at + length p
  front = length-append (take at buffer) p ∙ ap (λ n. n + length p) (length-take-le at buffer (omega arith))

  -- one part more, right behind
  pub placed_more : (q : List ℕ) → placed (at + length p) q (placed at p buffer) ≡ placed at (p ++ q) buffer
  placed_more q =
      let t = take_at (take at buffer ++ p) (drop (at + length p) buffer) (at + length p) front in
      let d = drop_at (take at buffer ++ p) (drop (at + length p) buffer) (at + length p) front in
      let e : drop (at + length p + length q) (placed at p buffer) ≡ drop (at + length (p ++ q)) buffer =
      sym (drop-drop (length q) (at + length p) (placed at p buffer)) ∙ (ap (drop (length q)) d ∙ (drop-drop (length q) (at + length p) buffer ∙ ap (λ n. drop n buffer) (omega (arith, length-append p q)))) in
      rw (t, e) (ap (λ (xs : List ℕ). xs ++ drop (at + length (p ++ q)) buffer) (append_assoc (take at buffer) p q))

  -- what was written stands there
  pub placed_part : take (length p) (drop at (placed at p buffer)) ≡ p
  placed_part =
      let l = length-take-le at buffer (omega arith) in
      let d = drop_at (take at buffer) (p ++ drop (at + length p) buffer) at l in
      rw (append_assoc, d) (take_at p (drop (at + length p) buffer) (length p) refl)

-- a buffer that holds w from a place on, and where w ends
pub record Wrote (at : ℕ) (w buffer now : List ℕ) (end : ℕ) : Type 0 where
  pub holds : now ≡ placed at w buffer
  pub ends : end ≡ at + length w

pub wrote_more : {at : ℕ} {w buffer now after : List ℕ} {end next : ℕ} (q : List ℕ) → Wrote at w buffer now end → at + length w ≤ length buffer → after ≡ placed end q now → next ≡ end + length q → Wrote at (w ++ q) buffer after next
wrote_more {at} {w} {buffer} {now} {after} {end} {next} q h room p n = record {
  holds = p ∙ (rw (h.ends, h.holds) (placed_more at w buffer room q));
  ends = omega (arith, n, h.ends, length-append w q);
}
