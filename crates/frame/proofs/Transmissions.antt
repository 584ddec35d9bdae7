-- The transmission relation, the reading of bytes and the making of bytes are one.
use Rattle.std.proofs.Common.{◌≡◌, ℕ, zero, suc, ◌+◌, ◌<◌, ◌≤◌, true, false, ◌&&◌, eqb, leb, ◌⊎◌, List, [], ◌∷◌, ◌++◌, length, drop, replicate, Ok, Err, Result, sym, refl, ap, ◌∙◌, subst, inl, inr, add_comm, add-one, arith, length-append}
use lib.Bits.{bit_xor, xor_self, xor_assoc, xor_zero_l, xor_zero_r}
use Rattle.std.proofs.lemmas.Bool.{and_parts, and_from, eqb-true, eq-eqb, leb-true, le-leb, cases_Bool, cond-true}
use Rattle.std.proofs.lemmas.List.{drop_at, length-replicate}
use Rattle.std.proofs.lemmas.List.Sums.{fold_push}
use Rattle.std.proofs.lemmas.Bool.Decides.{nat_tests}
use Rattle.std.proofs.ByRecursion.{All-drop}
use Rattle.frame.specs.Check.{check_of}
use Rattle.frame.specs.Frames.{Parts, Framed, StartFrame, start_frame, short_request, long_request}
use Rattle.frame.specs.Transmissions.{preambles_of, span_of, parts_with, Request, Sent, Transmits, request_of, sent_span, read_sent, read_request}
use Rattle.frame.specs.Making.{request?, start_for, checked, frame_bytes, sent, transmission, MadeAgain}
use Rattle.std.specs.List.{AllByRecursion}
use Rattle.frame.proofs.Frames.{start_read, read_start, data_limit}

-- the preambles before bytes that begin with none
preambles_led : (n : ℕ) (span : List ℕ) → preambles_of span ≡ 0 → preambles_of (replicate n 255 ++ span) ≡ n
preambles_led zero span e = e
preambles_led (suc n) span e = omega (arith, preambles_led n span e)

span_led : (n : ℕ) (span : List ℕ) → drop n (replicate n 255 ++ span) ≡ span
span_led n span = drop_at (replicate n 255) span n (length-replicate n 255)

-- all bytes are preambles and then the span
pub led : (bytes : List ℕ) → bytes ≡ replicate (preambles_of bytes) 255 ++ span_of bytes
led [] = refl
led (b ∷ bytes) = elim (cases_Bool (eqb b 255)) [
  | inl t ↦ let e = eqb-true b 255 t in rw (e, add_comm 1, add-one) (ap (λ r. 255 ∷ r) (led bytes))
  | inr f ↦ rw f refl
]

-- a frame begins with no preamble, where neither start byte of its kind is one
module _ (short long : ℕ) (a : eqb short 255 ≡ false) (b : eqb long 255 ≡ false) where
  unled : (span : List ℕ) (f : Parts) → StartFrame short long span f → preambles_of span ≡ 0
  unled span f (inl h) = rw (h.spelled, a) refl
  unled span f (inr h) = rw (h.spelled, b) refl

  -- a frame behind any number of preambles
  pub span_behind : (n : ℕ) (span : List ℕ) (f : Parts) → StartFrame short long span f → span_of (replicate n 255 ++ span) ≡ span
  span_behind n span f h = rw (preambles_led n span (unled span f h)) (span_led n span)

  pub preambles_sent : (q : Request) (bytes : List ℕ) → Sent (StartFrame short long) q bytes → preambles_of bytes ≡ q.preambles
  preambles_sent q bytes h = ap preambles_of h.spelled ∙ preambles_led q.preambles h.span (unled h.span (parts_with q h.check) h.framed)

  pub span_sent : (q : Request) (bytes : List ℕ) (h : Sent (StartFrame short long) q bytes) → span_of bytes ≡ h.span
  span_sent q bytes h = rw (preambles_sent q bytes h) (rw h.spelled (span_led q.preambles h.span))

unwrapped : (n : ℕ) (r : Result Parts ℕ) (q : Request) → request_of n r ≡ Ok q → (f : Parts) × (r ≡ Ok f) × (record { preambles = n; address = f.address; command = f.command; «data» = f.«data» } ≡ q)
unwrapped n (Ok f) q e = (f, refl, cc)
unwrapped n (Err k) q e = let z : ◌≡◌ {A = ℕ} 0 1 = cc in absurd (omega arith)

-- what the relation says, the reader finds, and the other way round: for two start bytes that differ, neither of them a preamble
module _ (short long : ℕ) (differ : eqb long short ≡ false) (a : eqb short 255 ≡ false) (b : eqb long 255 ≡ false) (q : Request) (bytes : List ℕ) where
  pub complete_sent : Sent (StartFrame short long) q bytes → read_sent short long bytes ≡ Ok q
  complete_sent h =
      let n = preambles_sent short long a b q bytes h in
      let s = span_sent short long a b q bytes h in
      let t = and_from (leb 2 q.preambles) (eqb (check_of h.span) 0) (le-leb 2 q.preambles h.led) (eq-eqb (check_of h.span) 0 h.sound) in
      ap (λ m. sent_span short long m (span_of bytes)) n ∙ (ap (sent_span short long q.preambles) s ∙ (cond-true _ _ _ t ∙ ap (request_of q.preambles) (start_read short long differ h.span (parts_with q h.check) h.framed)))

  pub reads_sent : read_sent short long bytes ≡ Ok q → Sent (StartFrame short long) q bytes
  reads_sent e = elim (cases_Bool (leb 2 (preambles_of bytes) && eqb (check_of (span_of bytes)) 0)) [
    | inl t ↦
        let p = and_parts (leb 2 (preambles_of bytes)) (eqb (check_of (span_of bytes)) 0) t in
        let u = unwrapped (preambles_of bytes) (start_frame short long (span_of bytes)) q (rw t at e) in
        subst (λ (x : Request). Sent (StartFrame short long) x bytes) u.2 (record {
          span = span_of bytes;
          check = u.0.check;
          led = leb-true 2 (preambles_of bytes) p.0;
          spelled = led bytes;
          framed = read_start short long differ (span_of bytes) u.0 u.1;
          sound = eqb-true (check_of (span_of bytes)) 0 p.1;
        })
    | inr t ↦ let z : ◌≡◌ {A = ℕ} 0 1 = let h = rw t at e in cc in absurd (omega arith)
  ]

pub complete : (q : Request) (bytes : List ℕ) → Transmits q bytes → read_request bytes ≡ Ok q
complete = complete_sent short_request long_request refl refl refl

-- the check behind the bytes that it is of
checked_sound : (bytes : List ℕ) → check_of (checked bytes) ≡ 0
checked_sound bytes = fold_push bit_xor 0 bytes (check_of bytes) ∙ xor_self (check_of bytes)

sound_checked : (bytes : List ℕ) (c : ℕ) → check_of (bytes ++ c ∷ []) ≡ 0 → check_of bytes ≡ c
sound_checked bytes c e =
    let z = sym (fold_push bit_xor 0 bytes c) ∙ e in
    let u : bit_xor (check_of bytes) (bit_xor (check_of bytes) c) ≡ c = rw (← xor_assoc, xor_self, xor_zero_l) in
    sym (xor_zero_r (check_of bytes)) ∙ (ap (bit_xor (check_of bytes)) (sym z) ∙ u)

-- the frame of an address of one or five bytes, for any two start bytes
module _ (short long : ℕ) (address : List ℕ) (command : ℕ) (content : List ℕ) (wide : (length address ≡ 1) ⊎ (length address ≡ 5)) where
  abbrev bare : List ℕ
  bare = start_for short long (length address) ∷ address ++ command ∷ length content ∷ content

  pub frames : StartFrame short long (frame_bytes (start_for short long (length address)) address command content) (record { address = address; command = command; «data» = content; check = check_of bare })
  frames = elim wide [
    | inl w ↦ inl (record { wide = w; spelled = rw w refl })
    | inr w ↦ inr (record { wide = w; spelled = rw w refl })
  ]

-- the transmission of parts in form
pub sends : (short long : ℕ) (q : Request) → request? q ≡ true → Sent (StartFrame short long) q (sent short long q)
sends short long q h =
    let wide : (length q.address ≡ 1) ⊎ (length q.address ≡ 5) = grind (arith, nat_tests) in
    let start = start_for short long (length q.address) in
    let bytes = start ∷ q.address ++ q.command ∷ length q.«data» ∷ q.«data» in
    record {
      span = frame_bytes start q.address q.command q.«data»;
      check = check_of bytes;
      led = grind (arith, nat_tests);
      spelled = refl;
      framed = frames short long q.address q.command q.«data» wide;
      sound = checked_sound bytes;
    }

-- at either width: the start byte that the maker takes is the one that stands there
module _ (q : Request) (bytes : List ℕ) (b : AllByRecursion (λ b. b < 256) bytes) (h : Transmits q bytes) (few : q.preambles ≤ 20)
    (start w : ℕ) (starts : start_for short_request long_request w ≡ start) (known : (w ≡ 1) ⊎ (w ≡ 5)) (f : Framed start w h.span (parts_with q h.check)) where
  again_at : MadeAgain bytes q
  again_at =
      let bare = start ∷ q.address ++ q.command ∷ length q.«data» ∷ q.«data» in
      let c : check_of bare ≡ h.check = sound_checked bare h.check (ap check_of (sym f.spelled) ∙ h.sound) in
      let bs : AllByRecursion (λ b. b < 256) h.span = rw (← span_led q.preambles h.span, ← h.spelled) (All-drop (λ b. b < 256) q.preambles bytes b) in
      let l = data_limit start w h.span (parts_with q h.check) f bs in
      let e = f.wide in
      let m = h.led in
      record {
        formed = grind (arith, nat_tests);
        same = rw (f.wide, starts, c, h.spelled, f.spelled) refl;
      }

pub made_again : (q : Request) (bytes : List ℕ) → AllByRecursion (λ b. b < 256) bytes → Transmits q bytes → q.preambles ≤ 20 → MadeAgain bytes q
made_again q bytes b h few = elim h.framed [
  | inl f ↦ again_at q bytes b h few 2 1 refl (inl refl) f
  | inr f ↦ again_at q bytes b h few 130 5 refl (inr refl) f
]

pub length_sent : (short long : ℕ) (q : Request) → length (sent short long q) ≡ q.preambles + length q.address + length q.«data» + 4
length_sent short long q = simp (length-append, length-replicate) (omega arith)

-- the transmission of a request in form is one
pub transmits : (q : Request) → request? q ≡ true → Transmits q (transmission q)
transmits = sends short_request long_request
