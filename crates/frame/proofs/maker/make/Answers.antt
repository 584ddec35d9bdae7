use Rattle.std.proofs.Common.{◌≡◌, ℕ, ◌-◌, ◌≤◌, true, ◌⊎◌, length, replicate, sym, refl, ap, ◌∙◌, inl, inr, arith}
use borrow.Rule.Slice.PartMut.{mid_of}
use native.Mathlib.Nat.{sub-zero}
use Rattle.std.proofs.lemmas.List.{take-replicate}
use Rattle.std.proofs.lemmas.Bool.Decides.{nat_tests}
use Rattle.frame.specs.Making.{request?, start_for, sent}
use Rattle.frame.specs.Transmissions.{Request}
use Rattle.frame.specs.Views.{address_bytes, width_of, request_parts}
use Rattle.refusals.proofs.Placing.{Wrote}
use Rattle.frame.proofs.Making.{made_fills, made_sound}
use Rattle.frame.proofs.Transmissions.{length_sent}
use Rattle.frame.proofs.maker.make.Goals as goal
use Rattle.frame.proofs.maker.make.Goals.{in-Short, in-Long}

-- an address of one or five bytes, and the start byte that tells it
abbrev Wide : ℕ → ℕ → ℕ → ℕ → Type 0
Wide short long w start = ((w ≡ 1) ⊎ (w ≡ 5)) × (start ≡ start_for short long w)

wide_short : (short long start w : ℕ) → w ≡ 1 → start ≡ short → Wide short long w start
wide_short short long start w e s = rw e (inl refl, s)

wide_long : (short long start w : ℕ) → w ≡ 5 → start ≡ long → Wide short long w start
wide_long short long start w e s = rw e (inr refl, s)

formed : (q : Request) → (length q.address ≡ 1) ⊎ (length q.address ≡ 5) → 2 ≤ q.preambles → q.preambles ≤ 20 → length q.«data» ≤ 255 → request? q ≡ true
formed q w a b d = grind (arith, nat_tests)

pub returns : goal.returns
returns c =
    let out = c.args.out.now in
    let n = c.args.parts.preambles in
    let q = request_parts c.args.parts in
    let e : length c.bytes.result.now ≡ length (address_bytes c.args.parts.address) = ap length c.bytes.ensures.value in
    let k : length (address_bytes c.args.parts.address) ≡ width_of c.args.parts.address = sym (c.bytes.ensures.wide ∙ e) in
    let w : Wide c.args.kind.short c.args.kind.long (length (address_bytes c.args.parts.address)) c.match-parts.start = elim c.match-parts.branch [
      | in-Short w ↦ wide_short _ _ _ _ (k ∙ ap width_of w.in-Short.is) w.start-is
      | in-Long w ↦ wide_long _ _ _ _ (k ∙ ap width_of w.in-Long.is) w.start-is
    ] in
    let f = formed q w.0 (omega arith) (omega arith) (omega arith) in
    let room : length (sent c.args.kind.short c.args.kind.long q) ≤ length out = omega (arith, e, length_sent c.args.kind.short c.args.kind.long q) in
    let p : mid_of {X = ℕ} 0 (n - 0) (replicate 20 255) ≡ replicate n 255 = rw sub-zero (take-replicate {X = ℕ} n 20 255 (omega arith)) in
    let led : Wrote 0 (replicate n 255) out c.put-end.new.out c.put-end.result = record { holds = rw (← p) c.put-end.ensures.after; ends = rw (← p) c.put-end.ensures.next } in
    record {
      fills = made_fills c.args.kind.short c.args.kind.long q c.match-parts.start out c.put-end.new.out c.put_frame.new.out c.put-end.result c.put_frame.result f w.1 room led c.put_frame.ensures.after c.put_frame.ensures.next;
      sound = made_sound c.args.kind.short c.args.kind.long q c.match-parts.start out c.put-end.new.out c.put_frame.new.out c.put-end.result c.put_frame.result f w.1 room led c.put_frame.ensures.after c.put_frame.ensures.next;
    }
