-- A receiver holds the characters that stand for its summary.
use Rattle.std.proofs.Common.{◌≡◌, ◌≢◌, ℕ, zero, suc, ◌<◌, ◌≤◌, true, false, List, [], ◌∷◌, ◌++◌, map, length, take, replicate, fold, Some, None, Option, slice_index, sym, refl, ap, ◌∙◌, arith, length-append, length-take}
use lib.Bits.{bit_or}
use Rattle.std.specs.Int.Bits.{or_zero_l, or_zero_r}
use Rattle.std.specs.List.{AllByRecursion}
use Rattle.std.specs.Option.{is_none}
use Rattle.std.proofs.lemmas.Bool.{ne_eqb, lt-ltb, le-ltb}
use Rattle.std.proofs.lemmas.List.{take_all, take-append-le}
use Rattle.line.specs.Characters.{Character, received}
use Rattle.line.specs.Marks.{marks_number}
use Rattle.receiver.specs.Spans.{kept_length, Bytes}
use Rattle.receiver.specs.Summaries.{Summary, summary_of}
use Rattle.receiver.specs.Holding.{Holds, unmarked, span_characters, pending_of, pending}
use Rattle.receiver.specs.declared.state.Receiver.{Receiver}
use Rattle.receiver.proofs.Receptions.{alike, summed, preamble_first, start_first}

-- the bytes and the marks of characters without marks
bytes_unmarked : (bs : List ℕ) → map (λ (c : Character). c.byte) (map unmarked bs) ≡ bs
bytes_unmarked [] = refl
bytes_unmarked (b ∷ bs) = ap (λ t. b ∷ t) (bytes_unmarked bs)

marks_unmarked : (bs : List ℕ) (m : ℕ) → fold bit_or m (map (λ (c : Character). c.marks) (map unmarked bs)) ≡ m
marks_unmarked [] m = refl
marks_unmarked (b ∷ bs) m = ap (λ n. fold bit_or n (map (λ (c : Character). c.marks) (map unmarked bs))) (or_zero_r m) ∙ marks_unmarked bs m

-- what is received of a span, and of preambles before it
span_received : (m b : ℕ) (bs : List ℕ) → b ≢ 255 → received (span_characters m (b ∷ bs)) ≡ record { preambles = 0; span = b ∷ bs; marks = m }
span_received m b bs other =
    start_first (record { byte = b; marks = m }) (map unmarked bs) (ne_eqb b 255 other)
    ∙ alike refl (ap (λ t. b ∷ t) (bytes_unmarked bs)) (marks_unmarked bs (bit_or 0 m) ∙ or_zero_l m)

led : (p : ℕ) (t : List Character) (span : List ℕ) (m : ℕ) → received t ≡ record { preambles = 0; span = span; marks = m } → received (replicate p (unmarked 0xff) ++ t) ≡ record { preambles = p; span = span; marks = m }
led zero t span m e = e
led (suc p) t span m e =
    let h = led p t span m e in
    preamble_first (unmarked 0xff) (replicate p (unmarked 0xff) ++ t) refl ∙ alike (ap (λ x. suc x.preambles) h) (ap (λ x. x.span) h) (ap (λ x. x.marks) h)

-- the summary of what is received so
unheard : (p : ℕ) → p ≤ 2 → summary_of (record { preambles = p; span = []; marks = 0 }) ≡ record { preambles = p; span = []; overlong = false; marks = 0 }
unheard p l = summed (omega arith) refl refl refl

fitting : (p m : ℕ) (span : List ℕ) → p ≤ 2 → length span ≤ 264 → summary_of (record { preambles = p; span = span; marks = m }) ≡ record { preambles = p; span = span; overlong = false; marks = m }
fitting p m span l few = summed (omega arith) (take_all 264 span few) (le-ltb 264 (length span) few) refl

too_long : (p m : ℕ) (span : List ℕ) → p ≤ 2 → length span ≡ 264 → summary_of (record { preambles = p; span = span ++ 0 ∷ []; marks = m }) ≡ record { preambles = p; span = span; overlong = true; marks = m }
too_long p m span l e =
    summed (omega arith) (take-append-le 264 span (0 ∷ []) (omega arith) ∙ take_all 264 span (omega arith))
    (lt-ltb 264 (length (span ++ 0 ∷ [])) (omega (arith, length-append span (0 ∷ [])))) refl

abbrev Characters : List Character → Type 0
Characters t = AllByRecursion (λ (c : Character). c.byte < 256) t

bytes_first : (n : ℕ) (bs : List ℕ) → Bytes bs → Bytes (take n bs)
bytes_first zero bs h = tt
bytes_first (suc n) [] h = tt
bytes_first (suc n) (b ∷ bs) h = (h.0, bytes_first n bs h.1)

bytes_more : (bs : List ℕ) → Bytes bs → Bytes (bs ++ 0 ∷ [])
bytes_more [] h = (omega arith, tt)
bytes_more (b ∷ bs) h = (h.0, bytes_more bs h.1)

unmarked_bytes : (bs : List ℕ) → Bytes bs → Characters (map unmarked bs)
unmarked_bytes [] h = tt
unmarked_bytes (b ∷ bs) h = (h.0, unmarked_bytes bs h.1)

span_bytes : (m : ℕ) (bs : List ℕ) → Bytes bs → Characters (span_characters m bs)
span_bytes m [] h = tt
span_bytes m (b ∷ bs) h = (h.0, unmarked_bytes bs h.1)

led_bytes : (p : ℕ) (t : List Character) → Characters t → Characters (replicate p (unmarked 0xff) ++ t)
led_bytes zero t h = h
led_bytes (suc p) t h = (omega arith, led_bytes p t h)

-- what a receiver's fields are, of which its summary is made
record Facts (p : ℕ) (bytes : List ℕ) (len : Option ℕ) (m : ℕ) : Type 0 where
  counted : p ≤ 2
  room : length bytes ≡ 264
  within : kept_length len ≤ 264
  fit : Bytes bytes
  clean : kept_length len ≡ 0 → m ≡ 0
  begun : 0 < kept_length len → slice_index bytes 0 ≢ 255

abbrev summary : ℕ → List ℕ → Option ℕ → ℕ → Summary
summary p bytes len m = record { preambles = p; span = take (kept_length len) bytes; overlong = is_none len; marks = m }

kept_summary : (p : ℕ) (bytes : List ℕ) (len : Option ℕ) (m : ℕ) → Facts p bytes len m → summary p bytes len m ≡ summary_of (received (pending_of (summary p bytes len m)))
kept_summary p bytes (Some zero) m f =
    let none : m ≡ 0 = f.clean refl in
    rw none (sym (ap summary_of (led p [] [] 0 refl) ∙ unheard p f.counted))
kept_summary p [] (Some (suc n)) m f = absurd (let e = f.room in omega arith)
kept_summary p (b ∷ bs) (Some (suc n)) m f =
    sym (ap summary_of (led p (span_characters m (b ∷ take n bs)) (b ∷ take n bs) m (span_received m b (take n bs) (f.begun (omega arith))))
    ∙ fitting p m (b ∷ take n bs) f.counted (let w = f.within in omega (arith, length-take n bs)))
kept_summary p [] None m f = absurd (let e = f.room in omega arith)
kept_summary p (b ∷ bs) None m f =
    let span : List ℕ = b ∷ take 263 bs in
    let e = f.room in
    sym (ap summary_of (led p (span_characters m (span ++ 0 ∷ [])) (span ++ 0 ∷ []) m (span_received m b (take 263 bs ++ 0 ∷ []) (f.begun (omega arith))))
    ∙ too_long p m span f.counted (omega (arith, length-take 263 bs)))

kept_bytes : (p : ℕ) (bytes : List ℕ) (len : Option ℕ) (m : ℕ) → Bytes bytes → Characters (pending_of (summary p bytes len m))
kept_bytes p bytes (Some n) m h = led_bytes p _ (span_bytes m (take n bytes) (bytes_first n bytes h))
kept_bytes p bytes None m h = led_bytes p _ (span_bytes m (take 264 bytes ++ 0 ∷ []) (bytes_more (take 264 bytes) (bytes_first 264 bytes h)))

-- EVERY RECEIVER holds some characters.
pub holds_pending : (r : Receiver) → Holds r (pending r)
holds_pending r = record {
  bytes = kept_bytes r.preambles r.bytes r.len (marks_number r.marks) r.fit;
  kept = kept_summary r.preambles r.bytes r.len (marks_number r.marks) (record {
    counted = r.counted;
    room = r.room;
    within = r.within;
    fit = r.fit;
    clean = r.unmarked;
    begun = r.begun;
  });
}
