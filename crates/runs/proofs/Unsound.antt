-- A sound transmission with one character damaged is not sound, also where the damage moves the start.
use Rattle.std.proofs.Common.{◌≡◌, ℕ, zero, suc, ◌<◌, ◌≤◌, true, ◌⊎◌, List, [], ◌∷◌, length, get_or, drop, set, Some, fold, sym, refl, ap, ◌∙◌, subst, inl, inr, le_of_suc-le-suc, add_comm, add-one, arith}
use lib.Bits.{bit_xor, xor_comm, xor_assoc, xor_self, xor_zero_l, xor_zero_r}
use lib.ListN.{length-map}
use Rattle.std.specs.List.{AllByRecursion}
use Rattle.std.proofs.lemmas.List.{map-set, set-get_or}
use Rattle.std.proofs.lemmas.Bool.{cases_eq, ne_eqb}
use Rattle.frame.specs.Check.{check_of}
use Rattle.frame.specs.Frames.{Parts, RequestFrame}
use Rattle.frame.specs.Transmissions.{preambles_of, span_of, parts_with}
use Rattle.frame.proofs.Frames.{framed_start}
use Rattle.frame.proofs.Transmissions.{span_sent}
use Rattle.line.specs.Characters.{Character, Keeps, bytes_in, received}
use Rattle.line.specs.Whole.{sound?, Sound}
use Rattle.line.proofs.Soundness as soundness
use Rattle.line.proofs.Soundness.{tells_sound}
use Rattle.runs.specs.Channel.{frame_in}
use Rattle.runs.specs.Damage.{Damaged}

undo : (a b : ℕ) → bit_xor a (bit_xor a b) ≡ b
undo a b = rw (← xor_assoc, xor_self, xor_zero_l)

cancel : (a b c : ℕ) → bit_xor a b ≡ bit_xor a c → b ≡ c
cancel a b c e = cc (undo a b, undo a c)

cancel_r : (a b c : ℕ) → bit_xor a c ≡ bit_xor b c → a ≡ b
cancel_r a b c e = cc (undo c a, undo c b, xor_comm c a, xor_comm c b)

-- the first byte apart from the others
from : (a : ℕ) (p : List ℕ) → fold bit_xor a p ≡ bit_xor a (check_of p)
from a [] = sym (xor_zero_r a)
from a (x ∷ p) = from (bit_xor a x) p ∙ (xor_assoc a x (check_of p) ∙ ap (bit_xor a) (sym (from x p)))

-- one byte altered in the midst of a list alters its check
altered : (p : List ℕ) (i b : ℕ) → i < length p → check_of (set p i b) ≡ check_of p → b ≡ get_or p i 0
altered [] i b l e = absurd (omega arith)
altered (x ∷ p) zero b l e = cancel_r b x (check_of p) (cc (from b p, from x p))
altered (x ∷ p) (suc i) b l e = altered p i b (le_of_suc-le-suc l) (cancel x (check_of (set p i b)) (check_of p) (cc (from x (set p i b), from x p)))

-- a first byte is a preamble or the start, whatever follows
abbrev Seen : ℕ → Type 0
Seen x = ((x ≡ 255) × ((s : List ℕ) → span_of (x ∷ s) ≡ span_of s)) ⊎ ((s : List ℕ) → span_of (x ∷ s) ≡ x ∷ s)

seen : (x : ℕ) → Seen x
seen x = elim (cases_eq x 255) [ inl p ↦ inl (p, λ s. rw (p, add_comm 1, add-one) refl) | inr n ↦ inr (λ s. rw (ne_eqb x 255 n) refl) ]

-- the preambles add nothing or 255 to the check
skipped : (s : List ℕ) → check_of (span_of s) ≡ 0 → (check_of s ≡ 0) ⊎ (check_of s ≡ 255)
skipped [] e = inl refl
skipped (x ∷ s) e = elim (seen x) [
  | inl p ↦ let q = skipped s (rw (p.1 s) at e) in grind (arith, from x s)
  | inr p ↦ inl (rw (p s) at e)
]

abbrev Start : ℕ → Type 0
Start b = (b ≡ 2) ⊎ (b ≡ 130)

apart : (b v : ℕ) → Start b → (v ≡ 0) ⊎ (v ≡ 255) → bit_xor b v ≡ 0 → ⊥
apart b v p q e = grind arith

abbrev Good : List ℕ → Type 0
Good p = Start (get_or p 0 0) × (check_of p ≡ 0)

-- a preamble in the place of a start, or a start in the place of a preamble
turned : (b : ℕ) (s : List ℕ) → Good (b ∷ s) → Good (span_of s) → ⊥
turned b s g h = apart b (check_of s) g.0 (skipped s h.1) (sym (from b s) ∙ g.1)

first : (x b : ℕ) (s : List ℕ) → Seen x → Seen b → Good (span_of (x ∷ s)) → Good (span_of (b ∷ s)) → b ≡ x
first x b s (inl p) (inl q) g h = q.0 ∙ sym p.0
first x b s (inl p) (inr q) g h = absurd (turned b s (rw (q s) at h) (rw (p.1 s) at g))
first x b s (inr p) (inl q) g h = absurd (turned x s (rw (p s) at g) (rw (q.1 s) at h))
first x b s (inr p) (inr q) g h = altered (x ∷ s) 0 b (omega arith) ((rw (q s) at h.1) ∙ sym (rw (p s) at g.1))

shows : (s : List ℕ) (i b : ℕ) → i < length s → Good (span_of s) → Good (span_of (set s i b)) → b ≡ get_or s i 0
shows [] i b l g h = absurd (omega arith)
shows (x ∷ s) zero b l g h = first x b s (seen x) (seen b) g h
shows (x ∷ s) (suc i) b l g h = elim (seen x) [
  | inl p ↦ shows s i b (le_of_suc-le-suc l) (rw (p.1 s) at g) (rw (p.1 (set s i b)) at h)
  | inr p ↦ altered (x ∷ s) (suc i) b l ((rw (p (set s i b)) at h.1) ∙ sym (rw (p s) at g.1))
]

begins : (span : List ℕ) (f : Parts) → RequestFrame span f → Start (get_or span 0 0)
begins span f (inl h) = inl (framed_start 2 1 span f h)
begins span f (inr h) = inr (framed_start 130 5 span f h)

good : (t : List Character) → Sound t → Good (span_of (bytes_in t))
good t h =
    let s = h.transmits in
    let e = span_sent 2 130 refl refl h.request (bytes_in t) s in
    rw e (begins s.span (parts_with h.request s.check) s.framed, s.sound)

-- what holds of each element past n holds of one that was put there
put : {X : Type 0} (P : X → Type 0) (n : ℕ) (xs : List X) (i : ℕ) (x : X) → n ≤ i → i < length xs → AllByRecursion P (drop n (set xs i x)) → P x
put P n [] i x h l a = absurd (omega arith)
put P zero (y ∷ xs) zero x h l a = a.0
put P zero (y ∷ xs) (suc i) x h l a = put P zero xs i x (omega arith) (omega arith) a.1
put P (suc n) (y ∷ xs) zero x h l a = absurd (omega arith)
put P (suc n) (y ∷ xs) (suc i) x h l a = put P n xs i x (omega arith) (omega arith) a

same_bytes : (t : List Character) (i : ℕ) (c : Character) → c.byte ≡ get_or (bytes_in t) i 0 → bytes_in (set t i c) ≡ bytes_in t
same_bytes t i c e = map-set (λ c. c.byte) t i c ∙ rw e (set-get_or (bytes_in t) i 0)

marked : (t : List Character) (i : ℕ) (c : Character) → preambles_of (bytes_in t) ≤ i → i < length t → c.byte ≡ get_or (bytes_in t) i 0 → Sound (set t i c) → c.marks ≡ 0
marked t i c h l e k = put (λ c. c.marks ≡ 0) (preambles_of (bytes_in t)) t i c h l (rw (same_bytes t i c e) at k.unmarked)

pub unsound : (t : List Character) → Damaged t → Sound t → ⊥
unsound t d s =
    let o = d.original in
    let i = d.place in
    let c = d.got in
    let k : Sound (set o i c) = subst Sound d.taken s in
    elim (cases_eq c.byte (get_or (bytes_in o) i 0)) [
      | inl e ↦ elim d.how [ inl n ↦ n e | inr p ↦ p.1 (marked o i c p.0 d.within e k) ]
      | inr n ↦ n (shows (bytes_in o) i c.byte (let l = d.within in omega (arith, length-map o (λ c. c.byte))) (good o d.sound) (rw (map-set (λ c. c.byte) o i c) at (good (set o i c) k)))
    ]

-- what is kept of characters
kept : (t : List Character) → Keeps (received t) t
kept t = record { preambles = refl; span = refl; marks = refl }

pub whole_frame : (t : List Character) (f : Parts) → frame_in t ≡ Some f → (2 ≤ preambles_of (bytes_in t)) × RequestFrame (span_of (bytes_in t)) f
whole_frame t f e = soundness.whole_frame (received t) f e

-- the tests of a whole transmission say that it is sound
pub sound_of : (t : List Character) (f : Parts) → frame_in t ≡ Some f → sound? (received t) ≡ true → Sound t
sound_of t f e = (tells_sound (received t) t f (kept t) e).0
