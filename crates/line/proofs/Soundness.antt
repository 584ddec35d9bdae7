-- What is kept of characters tells exactly whether they are sound, and which marks they have.
use Rattle.std.proofs.Common.{◌≡◌, ℕ, ◌≤◌, ◌<◌, ◌/◌, ◌%◌, ◌^◌, Bool, true, false, ◌||◌, eqb, leb, List, [], ◌∷◌, map, drop, Some, Ok, Err, fold, Result, sym, refl, ap, ◌∙◌, subst, inl, inr, max, arith}
use lib.Bits.{bit_or, or_add_and, and_le_l, and_le_r}
use Rattle.std.specs.List.{AllByRecursion, list_any}
use Rattle.std.specs.Result.{result_ok}
use Rattle.std.proofs.lemmas.Bool.{cases_Bool, and_parts, and_from, eqb-true, eq-eqb, leb-true}
use Rattle.std.proofs.lemmas.List.{drop-map}
use Rattle.frame.specs.Check.{check_of}
use Rattle.frame.specs.Frames.{Parts, RequestFrame, request_frame, short_request, long_request}
use Rattle.frame.specs.Transmissions.{preambles_of, span_of}
use Rattle.frame.proofs.Frames.{read_request_lem}
use Rattle.frame.proofs.Transmissions.{led, span_sent}
use Rattle.std.proofs.lemmas.Nat.Bits.{bit_at_or}
use Rattle.std.proofs.lemmas.Bool.Decides.{nat_tests}
use Rattle.record.specs.Bytes.{bit?}
use Rattle.line.specs.Characters.{Character, Reception, Keeps, bytes_in, from_start, marked?}
use Rattle.line.specs.Whole.{frame_of, sound?, Sound, TellsSound, error_status, error_status_by, wrong_check?, TellsDamage}

-- all marks together are none exactly where each is none
none_marked : (n : ℕ) (ms : List ℕ) → fold bit_or n ms ≡ 0 → (n ≡ 0) × AllByRecursion (λ m. m ≡ 0) ms
none_marked n [] e = (e, tt)
none_marked n (m ∷ ms) e =
    let p = none_marked (bit_or n m) ms e in
    let a = or_add_and n m in
    let b = and_le_l n m in
    let c = and_le_r n m in
    let z = p.0 in
    (omega arith, (omega arith, p.1))

unmarked_none : (ms : List ℕ) → AllByRecursion (λ m. m ≡ 0) ms → fold bit_or 0 ms ≡ 0
unmarked_none [] a = refl
unmarked_none (m ∷ ms) a = rw a.0 (unmarked_none ms a.1)

all_map : {X Y : Type 0} (f : X → Y) (P : Y → Type 0) (xs : List X) → AllByRecursion P (map f xs) → AllByRecursion (λ x. P (f x)) xs
all_map f P [] a = tt
all_map f P (x ∷ xs) a = (a.0, all_map f P xs a.1)

map_all : {X Y : Type 0} (f : X → Y) (P : Y → Type 0) (xs : List X) → AllByRecursion (λ x. P (f x)) xs → AllByRecursion P (map f xs)
map_all f P [] a = tt
map_all f P (x ∷ xs) a = (a.0, map_all f P xs a.1)

ok_part : (r : Result Parts ℕ) (f : Parts) → result_ok r ≡ Some f → r ≡ Ok f
ok_part (Ok x) f e = cc
ok_part (Err n) f e = let z : ◌≡◌ {A = ℕ} 0 1 = cc in absurd (omega arith)

-- a whole transmission has its preambles and its frame
pub whole_frame : (x : Reception) (f : Parts) → frame_of x ≡ Some f → (2 ≤ x.preambles) × RequestFrame x.span f
whole_frame x f e = elim (cases_Bool (leb 2 x.preambles)) [
  | inl b ↦ (leb-true 2 x.preambles b, read_request_lem x.span f (ok_part (request_frame x.span) f (rw b at e)))
  | inr b ↦ let z : ◌≡◌ {A = ℕ} 0 1 = let h = rw b at e in cc in absurd (omega arith)
]

module _ (x : Reception) (t : List Character) (f : Parts) (k : Keeps x t) (whole : frame_of x ≡ Some f) where
  pub is_sound : sound? x ≡ true → Sound t
  is_sound s =
      let bytes = bytes_in t in
      let w = whole_frame x f whole in
      let l : 2 ≤ preambles_of bytes = let e = k.preambles in let l = w.0 in omega arith in
      let p = and_parts (eqb x.marks 0) (eqb (check_of x.span) 0) s in
      let m = none_marked 0 (drop (preambles_of bytes) (map (λ c. c.marks) t)) (sym k.marks ∙ eqb-true x.marks 0 p.0) in
      record {
        request = record { preambles = preambles_of bytes; address = f.address; command = f.command; «data» = f.«data» };
        transmits = record {
          span = span_of bytes;
          check = f.check;
          led = l;
          spelled = led bytes;
          framed = subst (λ s. RequestFrame s f) k.span w.1;
          sound = sym (ap check_of k.span) ∙ eqb-true (check_of x.span) 0 p.1;
        };
        unmarked = all_map (λ c. c.marks) (λ m. m ≡ 0) (drop (preambles_of bytes) t) (rw (drop-map (λ c. c.marks) (preambles_of bytes) t) at m.1);
      }

  pub told_sound : Sound t → sound? x ≡ true
  told_sound h =
      let bytes = bytes_in t in
      let s = h.transmits in
      let c : check_of x.span ≡ 0 = ap check_of (k.span ∙ span_sent short_request long_request refl refl h.request bytes s) ∙ s.sound in
      let m : x.marks ≡ 0 = k.marks ∙ unmarked_none (drop (preambles_of bytes) (map (λ c. c.marks) t)) (rw (drop-map (λ c. c.marks) (preambles_of bytes) t) (map_all (λ c. c.marks) (λ m. m ≡ 0) (drop (preambles_of bytes) t) h.unmarked)) in
      and_from (eqb x.marks 0) (eqb (check_of x.span) 0) (eq-eqb x.marks 0 m) (eq-eqb (check_of x.span) 0 c)

pub tells_sound : (x : Reception) → TellsSound x (sound? x)
tells_sound x t f k w = (is_sound x t f k w, told_sound x t f k w)

-- a mark is among all together exactly where some character has it
or_bits : (a b : ℕ) → a < 2 → b < 2 → eqb (max a b) 1 ≡ (eqb a 1 || eqb b 1)
or_bits a b l k = grind (arith, nat_tests)

bit_of_or : (n m i : ℕ) → bit? (bit_or n m) i ≡ (bit? n i || bit? m i)
bit_of_or n m i = rw (bit_at_or n m i) (or_bits (n / 2 ^ i % 2) (m / 2 ^ i % 2) (omega arith) (omega arith))

or_assoc : (a b c : Bool) → ((a || b) || c) ≡ (a || (b || c))
or_assoc true b c = refl
or_assoc false b c = refl

or_none : (a : Bool) → (a || false) ≡ a
or_none true = refl
or_none false = refl

any_mark : (i n : ℕ) (ms : List ℕ) → bit? (fold bit_or n ms) i ≡ (bit? n i || list_any (λ m. bit? m i) ms)
any_mark i n [] = sym (or_none (bit? n i))
any_mark i n (m ∷ ms) =
    any_mark i (bit_or n m) ms ∙ (rw (bit_of_or n m i) (or_assoc (bit? n i) (bit? m i) (list_any (λ m. bit? m i) ms)))

any_of : (i : ℕ) (t : List Character) → list_any (λ m. bit? m i) (map (λ c. c.marks) t) ≡ list_any (λ c. bit? c.marks i) t
any_of i [] = refl
any_of i (c ∷ t) = rw (any_of i t) refl

module _ (x : Reception) (t : List Character) (k : Keeps x t) where
  told_mark : (i : ℕ) → bit? 0 i ≡ false → bit? x.marks i ≡ marked? i t
  told_mark i z =
      ap (λ m. bit? m i) k.marks
      ∙ (any_mark i 0 (drop (preambles_of (bytes_in t)) (map (λ c. c.marks) t))
      ∙ (rw (z, drop-map (λ c. c.marks) (preambles_of (bytes_in t)) t) (any_of i (from_start t))))

  told_damage : error_status x ≡ error_status_by (marked? 0 t) (marked? 1 t) (marked? 2 t) (wrong_check? (span_of (bytes_in t)))
  told_damage = rw (told_mark 0 refl, told_mark 1 refl, told_mark 2 refl, k.span) refl

pub tells_damage : (x : Reception) → TellsDamage x (error_status x)
tells_damage x t k = told_damage x t k
