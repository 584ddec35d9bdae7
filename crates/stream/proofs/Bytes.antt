-- The bytes of a recording, from the reader through the block to its events.
use Rattle.std.proofs.Common.{◌≡◌, ◌==◌, nat_lt, suc, true, false, ℕ, ◌+◌, ◌*◌, ◌/◌, ◌<◌, ◌≤◌, List, [], ◌∷◌, ◌++◌, take, drop, length, Option, Some, None, sym, refl, ap, ◌∙◌, append_assoc, append-nil, arith}
use Rattle.std.proofs.Math.Seq.{take-append-add}
use Rattle.std.proofs.lemmas.Bool.{ltb-true, ltb-false}
use Rattle.std.proofs.lemmas.List.{length-take-le, take_all, length-drop, length-append, take-append-le, drop-append-le, drop-drop}
use Rattle.std.specs.Simd.{first_chunks}
use Rattle.std.specs.Io.KnownBytes.{Consumes, IsAtEnd, Keeps}
use Rattle.recording.specs.Lines.{refusal_line, rest_line}
use Rattle.recording.specs.Recordings.{events_of, rest_of}

-- what a read took of known bytes
pub consumed : (old new : Option (List ℕ)) (left bytes : List ℕ) → old ≡ Some left → Consumes old new bytes → (left' : List ℕ) × (new ≡ Some left') × (left ≡ bytes ++ left')
consumed None new left bytes e h = cc
consumed (Some xs) None left bytes e h = absurd h
consumed (Some xs) (Some ys) left bytes e h = (ys, refl, sym (some_is e) ∙ h)
  where
    some_is : Some xs ≡ Some left → xs ≡ left
    some_is e = cc

pub at_end : (new : Option (List ℕ)) (left : List ℕ) → new ≡ Some left → IsAtEnd new → left ≡ []
at_end None left e h = cc
at_end (Some xs) left e h = let k : xs ≡ left = cc in sym k ∙ h

pub none_came : (n : ℕ) → nat_lt 0 n ≡ false → n ≡ 0
none_came n h = let k = ltb-false 0 n h in omega arith

-- the first 12 bytes are an event
one_event : (bytes : List ℕ) → 12 ≤ length bytes → (events_of bytes ≡ take 12 bytes ∷ events_of (drop 12 bytes)) × (rest_of bytes ≡ rest_of (drop 12 bytes))
one_event bytes long =
    let n = length (drop 12 bytes) / 12 in
    let more : length bytes / 12 ≡ suc n = omega (arith, length-drop 12 bytes) in
    let places : suc n * 12 ≡ 12 + n * 12 = omega arith in
    (ap (λ k. first_chunks 12 k bytes) more, ap (λ k. drop (k * 12) bytes) more ∙ (ap (λ k. drop k bytes) places ∙ sym (drop-drop (n * 12) 12 bytes)))

-- fewer than 12 are none
no_event : (bytes : List ℕ) → length bytes < 12 → (events_of bytes ≡ []) × (rest_of bytes ≡ bytes)
no_event bytes h = let none : length bytes / 12 ≡ 0 = omega arith in rw none (refl, refl)

-- an event that stands in the block
pub whole_first : (block : List ℕ) (start stop : ℕ) (left event unread : List ℕ) → unread ≡ drop start (take stop block) → 12 ≤ length unread → event ≡ take 12 unread
    → (events_of (drop start (take stop block) ++ left) ≡ event ∷ events_of (drop (start + 12) (take stop block) ++ left))
    × (rest_of (drop start (take stop block) ++ left) ≡ rest_of (drop (start + 12) (take stop block) ++ left))
whole_first block start stop left event unread there enough is =
    let first = one_event (unread ++ left) (omega (arith, length-append unread left)) in
    let front : event ≡ take 12 (unread ++ left) = is ∙ sym (take-append-le 12 unread left enough) in
    let back : drop 12 (unread ++ left) ≡ drop (start + 12) (take stop block) ++ left = drop-append-le 12 unread left enough ∙ ap (λ l. l ++ left) (ap (drop 12) there ∙ drop-drop 12 start (take stop block)) in
    rw (← there, front, ← back) first

-- bytes that were read behind those of a block stand behind those unread
pub read_behind : (block buf post : List ℕ) (start stop came : ℕ) → start ≤ stop → stop ≤ length block → came ≤ length buf → drop start (take (stop + came) (take stop block ++ (buf ++ post))) ≡ drop start (take stop block) ++ take came buf
read_behind block buf post start stop came h l m =
    let long : length (take stop block) ≡ stop = length-take-le stop block l in
    let both = take-append-add (take stop block) (buf ++ post) came in
    let got : take (stop + came) (take stop block ++ (buf ++ post)) ≡ take stop block ++ take came buf = rw long at both ∙ ap (λ l. take stop block ++ l) (take-append-le came buf post m) in
    ap (drop start) got ∙ drop-append-le start (take stop block) (take came buf) (omega (arith, long))

-- so there are more of them, if a byte came
pub more_unread : (unread unread' buf : List ℕ) (came : ℕ) → came ≤ length buf → unread' ≡ unread ++ take came buf → nat_lt 0 came ≡ true → length unread < length unread'
more_unread unread unread' buf came m e more = omega (arith, ltb-true 0 came more, ap length e, length-append unread (take came buf), length-take-le came buf m)

-- what the reader gave then stands there, and the whole is the same
pub read_more : {X : Type 0} (of : List ℕ → X) (x : X) (unread unread' left bytes left' : List ℕ) → left ≡ bytes ++ left' → unread' ≡ unread ++ bytes → x ≡ of (unread ++ left) → x ≡ of (unread' ++ left')
read_more of x unread unread' left bytes left' e f h = h ∙ ap of (ap (λ l. unread ++ l) e ∙ (sym (append_assoc unread bytes left') ∙ ap (λ l. l ++ left') (sym f)))

-- where fewer than 12 are unread and none are left there is no event
pub none_left : (unread left : List ℕ) → length unread < 12 → left ≡ [] → (events_of (unread ++ left) ≡ []) × (rest_of (unread ++ left) ≡ unread)
none_left unread left h e = rw (e, append-nil unread) (no_event unread h)

-- the line of what is left at the end: none where nothing is
pub no_rest : (rest unread : List ℕ) → rest ≡ unread → true ≡ (length unread == 0) → rest_line rest ≡ []
no_rest rest unread e h = rw (e, ← h) refl

pub some_rest : (rest unread : List ℕ) → rest ≡ unread → false ≡ (length unread == 0) → rest_line rest ≡ refusal_line 104
some_rest rest unread e h = rw (e, ← h) refl

-- an error of a read leaves the bytes of a block as they were, and those that the reader has left
pub unread_kept : (block buf post : List ℕ) (start stop : ℕ) → stop ≤ length block → drop start (take stop (take stop block ++ (buf ++ post))) ≡ drop start (take stop block)
unread_kept block buf post start stop l =
    let long = length-take-le stop block l in
    ap (drop start) (take-append-le stop (take stop block) (buf ++ post) (omega (arith, long)) ∙ take_all stop (take stop block) (omega (arith, long)))

pub kept_known : (old new : Option (List ℕ)) (left : List ℕ) → old ≡ Some left → Keeps old new → new ≡ Some left
kept_known None new left e h = cc
kept_known (Some xs) None left e h = absurd h
kept_known (Some xs) (Some ys) left e h = let k : ys ≡ xs = h in cc

-- the bytes to come are the same where some of them were read
pub same_bytes : (unread unread' left bytes left' : List ℕ) → left ≡ bytes ++ left' → unread' ≡ unread ++ bytes → unread' ++ left' ≡ unread ++ left
same_bytes unread unread' left bytes left' e f = ap (λ l. l ++ left') f ∙ (append_assoc unread bytes left' ∙ ap (λ l. unread ++ l) (sym e))
