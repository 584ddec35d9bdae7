-- One character more is received as the summary is pushed.
use Rattle.std.proofs.Common.{◌≡◌, ℕ, suc, ◌+◌, ◌<◌, ◌≤◌, min, Bool, true, false, cond, ◌&&◌, eqb, ltb, List, [], ◌∷◌, ◌++◌, map, length, take, fold, sym, refl, ap, ◌∙◌, inl, inr, arith, length-append, length-take, add_comm, add-one}
use lib.Bits.{bit_or}
use Rattle.std.proofs.lemmas.Bool.{cases_Bool, cases_lt, ne_eqb, lt-ltb, le-ltb, cond-true, cond-false}
use Rattle.std.proofs.lemmas.List.{take_all, take-append-le, length-take-le, map-append}
use Rattle.std.proofs.lemmas.List.Sums.{fold_push}
use Rattle.line.specs.Characters.{Character, Reception, received}
use Rattle.receiver.specs.Summaries.{Summary, summary_of, more, pushed}

-- a transmission with one preamble more in front
abbrev pub bump : Reception → Reception
bump x = record { preambles = suc x.preambles; span = x.span; marks = x.marks }

pub preamble_first : (d : Character) (t : List Character) → eqb d.byte 255 ≡ true → received (d ∷ t) ≡ bump (received t)
preamble_first d t e = rw (e, add_comm 1, add-one) refl

abbrev pub whole : List Character → Reception
whole t = record { preambles = 0; span = map (λ c. c.byte) t; marks = fold bit_or 0 (map (λ c. c.marks) t) }

pub start_first : (d : Character) (t : List Character) → eqb d.byte 255 ≡ false → received (d ∷ t) ≡ whole (d ∷ t)
start_first d t e = rw e refl

pub alike : {p q : ℕ} {s u : List ℕ} {m n : ℕ} → p ≡ q → s ≡ u → m ≡ n → ◌≡◌ {A = Reception} (record { preambles = p; span = s; marks = m }) (record { preambles = q; span = u; marks = n })
alike a b c = rw (a, b, c) refl

bump_more : (x : Reception) (c : Character) → bump (more x c) ≡ more (bump x) c
bump_more x c = elim (cases_Bool (eqb (length x.span) 0 && eqb c.byte 255)) [
  | inl b ↦ rw b (alike (omega arith) refl refl)
  | inr b ↦ rw b refl
]

whole_more : (d : Character) (t : List Character) (c : Character) → whole ((d ∷ t) ++ (c ∷ [])) ≡ more (whole (d ∷ t)) c
whole_more d t c =
    let bs = map (λ c. c.byte) t in
    let n : eqb (length (d.byte ∷ bs)) 0 ≡ false = ne_eqb (length (d.byte ∷ bs)) 0 (λ e. omega arith) in
    let s = map-append (λ c. c.byte) (d ∷ t) (c ∷ []) in
    let m = ap (fold bit_or 0) (map-append (λ c. c.marks) (d ∷ t) (c ∷ [])) ∙ fold_push bit_or 0 (map (λ c. c.marks) (d ∷ t)) c.marks in
    rw n (alike refl s m)

pub received_more : (t : List Character) (c : Character) → received (t ++ (c ∷ [])) ≡ more (received t) c
received_more [] c = elim (cases_Bool (eqb c.byte 255)) [ inl e ↦ rw e refl | inr e ↦ rw e refl ]
received_more (d ∷ t) c = elim (cases_Bool (eqb d.byte 255)) [
  | inl e ↦ preamble_first d (t ++ (c ∷ [])) e ∙ (ap bump (received_more t c) ∙ (bump_more (received t) c ∙ ap (λ x. more x c) (sym (preamble_first d t e))))
  | inr e ↦ start_first d (t ++ (c ∷ [])) e ∙ (whole_more d t c ∙ ap (λ x. more x c) (sym (start_first d t e)))
]

pub summed : {p q : ℕ} {s u : List ℕ} {o v : Bool} {m n : ℕ} → p ≡ q → s ≡ u → o ≡ v → m ≡ n → ◌≡◌ {A = Summary} (record { preambles = p; span = s; overlong = o; marks = m }) (record { preambles = q; span = u; overlong = v; marks = n })
summed a b c d = rw (a, b, c, d) refl

none_kept : (xs : List ℕ) → eqb (length (take 264 xs)) 0 ≡ eqb (length xs) 0
none_kept [] = refl
none_kept (x ∷ xs) = ne_eqb (length (take 264 (x ∷ xs))) 0 (λ e. omega (arith, length-take 264 (x ∷ xs))) ∙ sym (ne_eqb (length (x ∷ xs)) 0 (λ e. omega arith))

module _ (x : Reception) (c : Character) (other : (eqb (length x.span) 0 && eqb c.byte 255) ≡ false) where
  longer : length (x.span ++ c.byte ∷ []) ≡ length x.span + 1
  longer = length-append x.span (c.byte ∷ [])

  apart : pushed (summary_of x) c ≡ cond (ltb (length (take 264 x.span)) 264)
      (record { preambles = min x.preambles 2; span = take 264 x.span ++ c.byte ∷ []; overlong = ltb 264 (length x.span); marks = bit_or x.marks c.marks })
      (record { preambles = min x.preambles 2; span = take 264 x.span; overlong = true; marks = bit_or x.marks c.marks })
  apart = rw (none_kept x.span, other) refl

  room : length x.span < 264 → summary_of (more x c) ≡ pushed (summary_of x) c
  room l =
      let k = take_all 264 x.span (omega arith) in
      let m = take_all 264 (x.span ++ c.byte ∷ []) (omega (arith, longer)) in
      let t : ltb (length (take 264 x.span)) 264 ≡ true = lt-ltb (length (take 264 x.span)) 264 (omega (arith, ap length k)) in
      let a = le-ltb 264 (length (x.span ++ c.byte ∷ [])) (omega (arith, longer)) in
      let b = le-ltb 264 (length x.span) (omega arith) in
      rw other (summed refl (m ∙ ap (λ s. s ++ c.byte ∷ []) (sym k)) (a ∙ sym b) refl) ∙ sym (apart ∙ cond-true _ _ _ t)

  full : 264 ≤ length x.span → summary_of (more x c) ≡ pushed (summary_of x) c
  full l =
      let t : ltb (length (take 264 x.span)) 264 ≡ false = le-ltb (length (take 264 x.span)) 264 (omega (arith, length-take-le 264 x.span l)) in
      let a = lt-ltb 264 (length (x.span ++ c.byte ∷ [])) (omega (arith, longer)) in
      rw other (summed refl (take-append-le 264 x.span (c.byte ∷ []) l) a refl) ∙ sym (apart ∙ cond-false _ _ _ t)

pub summary_more : (x : Reception) (c : Character) → summary_of (more x c) ≡ pushed (summary_of x) c
summary_more x c = elim (cases_Bool (eqb (length x.span) 0 && eqb c.byte 255)) [
  | inl b ↦ rw (b, none_kept x.span, b) (summed (omega arith) refl refl refl)
  | inr b ↦ elim (cases_lt (length x.span) 264) [ inl l ↦ room x c b l | inr l ↦ full x c b l ]
]
