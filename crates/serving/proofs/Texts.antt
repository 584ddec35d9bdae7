-- The text bytes of a channel.
use Rattle.std.proofs.Common.{◌≡◌, ℕ, zero, suc, ◌+◌, ◌<◌, ◌≤◌, List, get_or, take, drop, Some, Ok, Err, Result, sym, refl, ◌∙◌, subst, inl, inr, arith, length-take, length-drop}
use denote.Param.Members.{Mut}
use Rattle.std.specs.Array.{IsFromFnResultFrom, IsFromFnResult}
use Rattle.std.specs.Fn.{Called}
use Rattle.std.specs.List.{AllByRecursion}
use Rattle.std.specs.Result.{result_unwrap_or}
use Rattle.std.proofs.lemmas.Bool.{cases_lt, le-leb}
use Rattle.std.proofs.lemmas.Grind.{same_number_lists}
use Rattle.std.proofs.lemmas.List.{get_or-take, get_or-drop}
use Rattle.record.specs.Lawful.{Lawful}
use Rattle.record.specs.declared.Record.{Record}
use Rattle.rack.specs.Meaning.{channel_of, text_byte}
use Rattle.rack.specs.Refusals.{numbered}
use Rattle.rack.specs.declared.refusal.RackRefusal.{RackRefusal}
use Rattle.rack.proofs.Meaning.{channel_lawful}

-- where a call at each place below m answers h of the place and leaves the closure as it was, so does each element
module _ {F : Type 0} (g : Mut F (ℕ × Unit {0}) ℕ) (f : F) (h : ℕ → ℕ) (m : ℕ) (answers : (i y : ℕ) (q : F) → i < m → Called g f (i, tt) y q → (q ≡ f) × (y ≡ h i)) where
  element_is : (ys : List ℕ) (i n : ℕ) → i + n ≤ m → IsFromFnResultFrom g f ys i n → (k : ℕ) → i ≤ k → k < i + n → get_or ys k 0 ≡ h k
  element_is ys i zero l made k low high = absurd (omega arith)
  element_is ys i (suc n) l (q, y, at, call, rest) k low high =
      let here = answers i y q (omega arith) call in
      elim (cases_lt i k) [
        | inl more ↦ element_is ys (i + 1) n (omega arith) (subst (λ p. IsFromFnResultFrom g p ys (i + 1) n) here.0 rest) k (omega arith) (omega arith)
        | inr none ↦ let same : k ≡ i = omega arith in rw same (at.1 0 ∙ here.1)
      ]

module _ (records : List Record) (channel : ℕ) (lawful : AllByRecursion Lawful records) (r : Record) (is : channel_of records channel ≡ Some r) where
  byte_at : (place : ℕ) → place < 45 → text_byte records channel place ≡ Ok (get_or r.text place 0)
  byte_at place low = rw (is, le-leb place 44 (omega arith)) refl

  pub byte_is : (place : ℕ) → place < 45 → (a : Result ℕ RackRefusal) → numbered a ≡ text_byte records channel place → result_unwrap_or a 0 ≡ get_or r.text place 0
  byte_is place low (Ok b) e = let k = byte_at place low in cc
  byte_is place low (Err x) e = let k = byte_at place low in cc

  pub text_is : {F : Type 0} {g : Mut F (ℕ × Unit {0}) ℕ} {f : F} (text : List ℕ) (at n : ℕ) → at + n ≤ 45 → IsFromFnResult g f text n
      → ((i y : ℕ) (q : F) → i < n → Called g f (i, tt) y q → (q ≡ f) × (y ≡ get_or r.text (at + i) 0)) → text ≡ take n (drop at r.text)
  text_is {g = g} {f = f} text at n low made answers =
      let whole = (channel_lawful records channel r lawful is).text in
      same_number_lists text (take n (drop at r.text)) (omega (arith, made.long, length-take n (drop at r.text), length-drop at r.text))
      (λ i l. element_is g f (λ k. get_or r.text (at + k) 0) n answers text 0 n (omega arith) made.each i (omega arith) (omega (arith, made.long))
      ∙ sym (get_or-take n (drop at r.text) i 0 (omega (arith, made.long)) ∙ get_or-drop at r.text i 0))
