-- What is written as preambles and then a frame is the transmission of its parts.
use Rattle.std.proofs.Common.{◌≡◌, ℕ, ◌+◌, ◌≤◌, true, false, eqb, List, ◌++◌, length, take, drop, replicate, IfOk, Ok, Err, Result, sym, refl, ap, ◌∙◌, inl, inr, zero-add, arith, length-append}
use Rattle.std.proofs.lemmas.List.{take_at}
use Rattle.refusals.specs.Filling.{Fills, placed}
use Rattle.refusals.specs.declared.Refusal.{Refusal}
use Rattle.refusals.proofs.Filling.{fills_done}
use Rattle.refusals.proofs.Placing.{Wrote, wrote_more}
use Rattle.frame.specs.Frames.{StartFrame}
use Rattle.std.proofs.lemmas.Bool.{cases_Bool}
use Rattle.std.proofs.lemmas.Bool.Decides.{nat_tests}
use Rattle.frame.specs.declared.Address.{Address}
use Rattle.frame.specs.declared.Address.TheVariants.{Short, Long}
use Rattle.frame.specs.Views.{address_bytes, address_of}
use Rattle.frame.specs.Making.{address?, request?, start_for, frame_bytes, sent, transmission, ReadsBack}
use Rattle.frame.specs.Transmissions.{Request, Sent, Transmits}
use Rattle.frame.proofs.Transmissions.{sends, complete}

module _ (short long : ℕ) (q : Request) (start : ℕ) (before now after : List ℕ) (mid end : ℕ)
    (formed : request? q ≡ true) (starts : start ≡ start_for short long (length q.address)) (room : length (sent short long q) ≤ length before)
    (led : Wrote 0 (replicate q.preambles 255) before now mid)
    (framed : after ≡ placed mid (frame_bytes start q.address q.command q.«data») now)
    (ends : end ≡ mid + length (frame_bytes start q.address q.command q.«data»)) where
  wrote : Wrote 0 (sent short long q) before after end
  wrote =
      let frame = frame_bytes start q.address q.command q.«data» in
      let l = length-append (replicate q.preambles 255) (frame_bytes (start_for short long (length q.address)) q.address q.command q.«data») in
      rw (← starts) (wrote_more frame led (omega arith) framed ends)

  long_as : end ≡ length (sent short long q)
  long_as = wrote.ends ∙ zero-add (length (sent short long q))

  filled : after ≡ sent short long q ++ drop (length (sent short long q)) before
  filled = wrote.holds ∙ rw zero-add refl

  pub made_fills : Fills (request? q) (sent short long q) before (Ok end) after
  made_fills = fills_done formed room long_as filled

  pub made_sound : Sent (StartFrame short long) q (take end after)
  made_sound =
      rw (filled, take_at (sent short long q) (drop (length (sent short long q)) before) end (sym long_as)) (sends short long q formed)

-- a request that was made reads back
pub made_back : (q : Request) (out : List ℕ) (r : Result ℕ Refusal) → IfOk r (λ n. Transmits q (take n out)) → IfOk r (λ n. ReadsBack q (take n out))
made_back q out (Ok n) h = record { sound = h; same = complete q (take n out) h }
made_back q out (Err e) h = tt

-- the bytes of an address that was made are the bytes that it was made of
pub address_made : (a : Address) (bytes : List ℕ) → Ok a ≡ address_of bytes → address_bytes a ≡ bytes
address_made a bytes e = elim (cases_Bool (eqb (length bytes) 1)) [
  | inl t ↦ let k : a ≡ Short bytes = let h = rw t at e in cc in ap address_bytes k
  | inr t ↦ elim (cases_Bool (eqb (length bytes) 5)) [
    | inl u ↦ let k : a ≡ Long bytes = let h = rw (t, u) at e in cc in ap address_bytes k
    | inr u ↦ let z : ◌≡◌ {A = ℕ} 0 1 = let h = rw (t, u) at e in cc in absurd (omega arith)
  ]
]

-- the number of a refusal to make one, whose bytes are none
refused_bytes : (bytes : List ℕ) (n : ℕ) → Err n ≡ address_of bytes → (n ≡ 110) × (address? bytes ≡ false)
refused_bytes bytes n e = elim (cases_Bool (eqb (length bytes) 1)) [
  | inl t ↦ let z : ◌≡◌ {A = ℕ} 0 1 = let h = rw t at e in cc in absurd (omega arith)
  | inr t ↦ elim (cases_Bool (eqb (length bytes) 5)) [
    | inl u ↦ let z : ◌≡◌ {A = ℕ} 0 1 = let h = rw (t, u) at e in cc in absurd (omega arith)
    | inr u ↦ (let h = rw (t, u) at e in cc, rw (t, u) refl)
  ]
]

-- parts with such an address are out of form
unformed : (q : Request) → address? q.address ≡ false → request? q ≡ false
unformed q e = rw e (grind (arith, nat_tests))

-- a request of bytes that are no address is refused
pub address_refused : (q : Request) (out : List ℕ) (n : ℕ) → Err n ≡ address_of q.address → Fills (request? q) (transmission q) out (Err n) out
address_refused q out n e =
    let p = refused_bytes q.address n e in
    record { answers = rw (p.0, unformed q p.1) refl; leaves = refl }
