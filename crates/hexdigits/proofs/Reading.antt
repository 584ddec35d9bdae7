-- The reading of hexadecimal text, one byte after another.
use Rattle.std.proofs.Common.{◌≡◌, ℕ, Bool, if◌then◌else◌, true, false, ◌&&◌, is_some, zero, suc, ◌+◌, ◌*◌, ◌/◌, ◌%◌, ◌<◌, ◌≤◌, List, [], ◌∷◌, ◌++◌, length, get_or, take, drop, Some, None, Option, Err, Result, sym, refl, ap, ◌∙◌, append_assoc, add-one, arith}
use lib.Utf8.{encode}
use Rattle.std.specs.Simd.{first_chunks}
use Rattle.std.proofs.lemmas.Str.Ascii.{encode_ascii}
use Rattle.std.proofs.lemmas.List.{at_drop_more, at_drop_all, append-nil}
use Rattle.std.specs.List.{AllByRecursion, list_all}
use Rattle.std.proofs.lemmas.Bool.Decides.{nat_tests}
use Rattle.std.specs.Option.{ok_or}
use Rattle.hexdigits.specs.declared.HexFault.{HexFault}
use Rattle.hexdigits.specs.declared.HexFault.TheVariants.{NotHex, Memory}
use Rattle.hexdigits.specs.Hex.{digit_of, hex_of, value_of, byte_of, pair?, before, bytes_of}
use Rattle.hexdigits.specs.Answers.{some_bytes?, Reads}

digit_back : (n : ℕ) → n < 16 → value_of (digit_of n) ≡ Some n
digit_back n h = grind (arith, nat_tests)

-- bytes already read, before those of what is left
abbrev pub after : List ℕ → Option (List ℕ) → Option (List ℕ)
after front (Some bytes) = Some (front ++ bytes)
after front None = None

before_none : (b : Option ℕ) → before b None ≡ None
before_none (Some b) = refl
before_none None = refl

-- a text of an odd length is no bytes
pub odd : (text : List ℕ) → (length text % 2 ≡ 0 → ⊥) → bytes_of text ≡ None
odd [] h = absurd (h refl)
odd (a ∷ []) h = refl
odd (a ∷ b ∷ text) h = rw (odd text (λ e. h (omega arith))) (before_none (byte_of a b))

-- the bytes of pairs of digits
abbrev pub in_pairs : List (List ℕ) → Option (List ℕ)
in_pairs [] = Some []
in_pairs (p ∷ pairs) = before (byte_of (get_or p 0 0) (get_or p 1 0)) (in_pairs pairs)

-- a text of an even length in its pairs
pub pairs_read : (n : ℕ) (text : List ℕ) → length text ≡ n * 2 → in_pairs (first_chunks 2 n text) ≡ bytes_of text
pairs_read zero [] h = refl
pairs_read zero (a ∷ text) h = absurd (omega arith)
pairs_read (suc n) [] h = absurd (omega arith)
pairs_read (suc n) (a ∷ []) h = absurd (omega arith)
pairs_read (suc n) (a ∷ b ∷ text) h = ap (before (byte_of a b)) (pairs_read n text (omega arith))

-- pairs are bytes where each of them is one
before_some : (b : Option ℕ) (rest : Option (List ℕ)) → is_some (before b rest) ≡ (is_some b && is_some rest)
before_some (Some b) (Some rest) = refl
before_some (Some b) None = refl
before_some None rest = refl

all_some : (pairs : List (List ℕ)) → is_some (in_pairs pairs) ≡ list_all pair? pairs
all_some [] = refl
all_some (p ∷ pairs) = before_some (byte_of (get_or p 0 0) (get_or p 1 0)) (in_pairs pairs) ∙ ap (λ t. pair? p && t) (all_some pairs)

none_there : (o : Option (List ℕ)) → is_some o ≡ false → o ≡ None
none_there None h = refl
none_there (Some bytes) h = absurd (cc)

pub not_all : (pairs : List (List ℕ)) → list_all pair? pairs ≡ false → in_pairs pairs ≡ None
not_all pairs h = none_there (in_pairs pairs) (all_some pairs ∙ h)

kept : (b : Option ℕ) (rest : Option (List ℕ)) → is_some (before b rest) ≡ true → some_bytes? (before b rest) ≡ true
kept (Some b) (Some rest) h = refl
kept (Some b) None h = absurd (cc)
kept None rest h = absurd (cc)

pub all_kept : (pairs : List (List ℕ)) → list_all pair? pairs ≡ true → 0 < length pairs → some_bytes? (in_pairs pairs) ≡ true
all_kept [] h l = absurd (omega arith)
all_kept (p ∷ pairs) h l = kept (byte_of (get_or p 0 0) (get_or p 1 0)) (in_pairs pairs) (all_some (p ∷ pairs) ∙ h)

-- want of memory for the bytes of pairs of which there is one
told_by : (all : Bool) (pairs : List (List ℕ)) (text : List ℕ) (fault : HexFault) → list_all pair? pairs ≡ all
    → fault ≡ (if all then Memory else NotHex) → in_pairs pairs ≡ bytes_of text → 0 < length pairs → Reads (bytes_of text) (Err fault)
told_by true pairs text fault h e r l = rw e (ap some_bytes? (sym r) ∙ all_kept pairs h l)
told_by false pairs text fault h e r l = rw e (sym r ∙ not_all pairs h)

pub fault_told : (pairs : List (List ℕ)) (text : List ℕ) (fault : HexFault) → fault ≡ (if list_all pair? pairs then Memory else NotHex)
    → in_pairs pairs ≡ bytes_of text → 0 < length pairs → Reads (bytes_of text) (Err fault)
fault_told pairs text fault = told_by (list_all pair? pairs) pairs text fault refl

-- a loop that has read the bytes `front` of pairs: at a pair that is no byte, at one more, and at the end
module _ (pairs : List (List ℕ)) (front : List ℕ) (i : ℕ) (inv : after front (in_pairs (drop i pairs)) ≡ in_pairs pairs) where
  abbrev next : Option ℕ
  next = byte_of (get_or (get_or pairs i []) 0 0) (get_or (get_or pairs i []) 1 0)

  abbrev rest : Option (List ℕ)
  rest = in_pairs (drop (i + 1) pairs)

  pub at_none : i < length pairs → next ≡ None → in_pairs pairs ≡ None
  at_none h e = sym inv ∙ ap (after front) (at_drop_more in_pairs pairs i [] h ∙ ap (λ b. before b rest) e)

  pub at_end : length pairs ≤ i → in_pairs pairs ≡ Some front
  at_end h = sym inv ∙ (ap (after front) (at_drop_all in_pairs pairs i h) ∙ ap Some (append-nil front))

-- what is written of bytes reads back to them
pair_back : (b : ℕ) → b < 256 → byte_of (digit_of (b / 16)) (digit_of (b % 16)) ≡ Some b
pair_back b h =
    let high : value_of (digit_of (b / 16)) ≡ Some (b / 16) = digit_back (b / 16) (omega arith) in
    let low : value_of (digit_of (b % 16)) ≡ Some (b % 16) = digit_back (b % 16) (omega arith) in
    rw (high, low) (ap Some (omega arith))

pub hex_back : (bytes : List ℕ) → AllByRecursion (λ b. b < 256) bytes → bytes_of (hex_of bytes) ≡ Some bytes
hex_back [] h = refl
hex_back (b ∷ bytes) h = rw (pair_back b h.0, hex_back bytes h.1) refl

digit_ascii : (n : ℕ) → n < 16 → digit_of n < 128
digit_ascii n h = grind (arith, nat_tests)

-- digits are ASCII
pub hex_ascii : (bytes : List ℕ) → AllByRecursion (λ b. b < 256) bytes → AllByRecursion (λ d. d < 128) (hex_of bytes)
hex_ascii [] h = tt
hex_ascii (b ∷ bytes) h = (digit_ascii (b / 16) (omega arith), (digit_ascii (b % 16) (omega arith), hex_ascii bytes h.1))

-- the digits of one byte more
taken : (i : ℕ) (bytes : List ℕ) → i < length bytes → hex_of (take (suc i) bytes) ≡ hex_of (take i bytes) ++ (digit_of (get_or bytes i 0 / 16) ∷ digit_of (get_or bytes i 0 % 16) ∷ [])
taken i [] h = absurd (omega arith)
taken zero (b ∷ bytes) h = refl
taken (suc i) (b ∷ bytes) h = rw (taken i bytes (omega arith)) refl

-- the same, of digits that were written as characters
pub hex_more : (i : ℕ) (bytes : List ℕ) (c d : ℕ) → i < length bytes → get_or bytes i 0 < 256 → c ≡ digit_of (get_or bytes i 0 / 16) → d ≡ digit_of (get_or bytes i 0 % 16) → hex_of (take i bytes) ++ encode c ++ encode d ≡ hex_of (take (i + 1) bytes)
hex_more i bytes c d h b e f =
    let high = get_or bytes i 0 / 16 in
    let low = get_or bytes i 0 % 16 in
    rw (e, f, encode_ascii (digit_of high) (digit_ascii high (omega arith)), encode_ascii (digit_of low) (digit_ascii low (omega arith)), add-one, taken i bytes h) (append_assoc (hex_of (take i bytes)) (digit_of high ∷ []) (digit_of low ∷ []))

-- the same, of digits that were put one by one
pub hex_pushed : (i : ℕ) (bytes : List ℕ) (c d : ℕ) → i < length bytes → c ≡ digit_of (get_or bytes i 0 / 16) → d ≡ digit_of (get_or bytes i 0 % 16)
    → (hex_of (take i bytes) ++ (c ∷ [])) ++ (d ∷ []) ≡ hex_of (take (i + 1) bytes)
hex_pushed i bytes c d h e f = rw (add-one, taken i bytes h, ← e, ← f) (append_assoc (hex_of (take i bytes)) (c ∷ []) (d ∷ []))

-- the digits of bytes in two parts
pub hex_parts : (front back : List ℕ) → hex_of (front ++ back) ≡ hex_of front ++ hex_of back
hex_parts [] back = refl
hex_parts (b ∷ front) back = rw (hex_parts front back) refl

-- an option without a value, told as a fault
pub refused : (o : Option ℕ) (e : HexFault) → ◌≡◌ {A = Result ℕ HexFault} (Err e) (ok_or o NotHex) → (o ≡ None) × (e ≡ NotHex)
refused (Some x) e h = absurd (cc)
refused None e h = (refl, cc)
