-- The frame relation and the reading by places are one, for any start byte and any address width.
use Rattle.std.proofs.Common.{◌≡◌, ℕ, ◌+◌, ◌<◌, ◌≤◌, Bool, true, false, ◌&&◌, eqb, leb, List, [], ◌∷◌, ◌++◌, length, get_or, take, drop, Ok, sym, refl, ap, ◌∙◌, inl, inr, append_assoc, add_comm, add-one, arith, length-append, length-drop}
use Rattle.std.proofs.lemmas.Bool.{and_parts, and_from, eqb-true, eq-eqb, leb-true, le-leb, cases_Bool}
use Rattle.std.proofs.lemmas.List.{take_more, take_all, take_at, drop_at, get_or_at, get_or-drop, drop-drop, get_or-append-add, take-append-drop, length-take-le}
use Rattle.std.proofs.ByRecursion.{All-get_or}
use Rattle.std.specs.List.{AllByRecursion}
use Rattle.frame.specs.Frames.{Parts, Framed, StartFrame, RequestFrame, frame_after, frame_at, start_frame, request_frame, short_request, long_request, longest_frame}

-- what follows the address, spelled out
abbrev pub tail : Parts → List ℕ
tail f = f.command ∷ length f.«data» ∷ f.«data» ++ f.check ∷ []

-- one byte more than n: the first n and then the last
last : (n : ℕ) (body : List ℕ) → length body ≡ n + 1 → body ≡ take n body ++ get_or body n 0 ∷ []
last n body l = sym (take_all (n + 1) body (omega arith)) ∙ take_more body n 0 (omega arith)

split : (rest : List ℕ) → 2 ≤ length rest → rest ≡ get_or rest 0 0 ∷ get_or rest 1 0 ∷ drop 2 rest
split [] h = absurd (omega arith)
split (a ∷ []) h = absurd (omega arith)
split (a ∷ b ∷ rest) h = refl

-- the test of `frame_after`, and the parts that it reads
abbrev fits? : List ℕ → Bool
fits? rest = leb 3 (length rest) && eqb (length rest) (3 + get_or rest 1 0)

abbrev places : List ℕ → List ℕ → Parts
places address rest = record { address = address; command = get_or rest 0 0; «data» = take (get_or rest 1 0) (drop 2 rest); check = get_or rest (2 + get_or rest 1 0) 0 }

pub tail_read : (f : Parts) → frame_after f.address (tail f) ≡ Ok f
tail_read f =
    let l = length-append f.«data» (f.check ∷ []) in
    let t : fits? (tail f) ≡ true = and_from (leb 3 (length (tail f))) (eqb (length (tail f)) (3 + length f.«data»)) (le-leb 3 (length (tail f)) (omega arith)) (eq-eqb (length (tail f)) (3 + length f.«data») (omega arith)) in
    let d = take_at f.«data» (f.check ∷ []) (length f.«data») refl in
    let k : get_or (tail f) (2 + length f.«data») 0 ≡ f.check = get_or_at (f.command ∷ length f.«data» ∷ f.«data») f.check [] 0 (2 + length f.«data») (omega arith) in
    rw (t, d, k) refl

spelled : (address rest : List ℕ) → fits? rest ≡ true → rest ≡ tail (places address rest)
spelled address rest t =
    let p = and_parts (leb 3 (length rest)) (eqb (length rest) (3 + get_or rest 1 0)) t in
    let a = leb-true 3 (length rest) p.0 in
    let b = eqb-true (length rest) (3 + get_or rest 1 0) p.1 in
    let n = get_or rest 1 0 in
    let l = length-drop 2 rest in
    let m : length (take n (drop 2 rest)) ≡ n = length-take-le n (drop 2 rest) (omega arith) in
    let k = get_or-drop 2 rest n 0 in
    split rest (omega arith) ∙ cc (last n (drop 2 rest) (omega arith), m, k)

pub read_tail : (address rest : List ℕ) (f : Parts) → frame_after address rest ≡ Ok f → (address ≡ f.address) × (rest ≡ tail f)
read_tail address rest f e = elim (cases_Bool (fits? rest)) [
  | inl t ↦ let q : places address rest ≡ f = let h = rw t at e in cc in (ap (λ (x : Parts). x.address) q, spelled address rest t ∙ ap tail q)
  | inr t ↦ let z : ◌≡◌ {A = ℕ} 0 1 = let h = rw t at e in cc in absurd (omega arith)
]

headed : (span : List ℕ) → 0 < length span → span ≡ get_or span 0 0 ∷ drop 1 span
headed [] h = absurd (omega arith)
headed (b ∷ span) h = refl

-- the relation's spelling, with the tail apart
regroup : (start : ℕ) (f : Parts) → start ∷ f.address ++ f.command ∷ length f.«data» ∷ f.«data» ++ f.check ∷ [] ≡ (start ∷ f.address) ++ tail f
regroup start f = append_assoc (start ∷ f.address) (f.command ∷ length f.«data» ∷ f.«data») (f.check ∷ [])

module _ (start w : ℕ) (span : List ℕ) (f : Parts) where
  pub framed_read : Framed start w span f → (get_or span 0 0 ≡ start) × (frame_at w span ≡ Ok f)
  framed_read h =
      let s : span ≡ start ∷ (f.address ++ tail f) = h.spelled ∙ regroup start f in
      let a = take_at f.address (tail f) w h.wide in
      let b = drop_at f.address (tail f) w h.wide in
      rw (s, add-one) (refl, rw (a, b) (tail_read f))

  pub read_framed : get_or span 0 0 ≡ start → frame_at w span ≡ Ok f → Framed start w span f
  read_framed s e =
      let r = read_tail (take w (drop 1 span)) (drop (w + 1) span) f e in
      let l = ap length r.1 in
      let d = length-drop (w + 1) span in
      let d1 = length-drop 1 span in
      let j : drop w (drop 1 span) ≡ tail f = drop-drop w 1 span ∙ (ap (λ n. drop n span) (add_comm 1 w) ∙ r.1) in
      let t : drop 1 span ≡ f.address ++ tail f = sym (take-append-drop w (drop 1 span)) ∙ cc (r.0, j) in
      record {
        wide = ap length (sym r.0) ∙ length-take-le w (drop 1 span) (omega arith);
        spelled = headed span (omega arith) ∙ (cc (s, t) ∙ sym (regroup start f));
      }

-- the same for two start bytes that differ
module _ (short long : ℕ) (differ : eqb long short ≡ false) (span : List ℕ) (f : Parts) where
  pub start_read : StartFrame short long span f → start_frame short long span ≡ Ok f
  start_read (inl h) = let r = framed_read short 1 span f h in rw (r.0, eq-eqb short short refl) r.1
  start_read (inr h) = let r = framed_read long 5 span f h in rw (r.0, differ, eq-eqb long long refl) r.1

  pub read_start : start_frame short long span ≡ Ok f → StartFrame short long span f
  read_start e = elim (cases_Bool (eqb (get_or span 0 0) short)) [
    | inl s ↦ inl (read_framed short 1 span f (eqb-true (get_or span 0 0) short s) (rw s at e))
    | inr s ↦ elim (cases_Bool (eqb (get_or span 0 0) long)) [
      | inl t ↦ inr (read_framed long 5 span f (eqb-true (get_or span 0 0) long t) (rw (s, t) at e))
      | inr t ↦ let z : ◌≡◌ {A = ℕ} 0 1 = let h = rw (s, t) at e in cc in absurd (omega arith)
    ]
  ]

pub request_read : (span : List ℕ) (f : Parts) → RequestFrame span f → request_frame span ≡ Ok f
request_read span f = start_read short_request long_request refl span f

pub read_request_lem : (span : List ℕ) (f : Parts) → request_frame span ≡ Ok f → RequestFrame span f
read_request_lem span f = read_start short_request long_request refl span f

module _ (start w : ℕ) (span : List ℕ) (f : Parts) (h : Framed start w span f) where
  -- a frame has w + 4 bytes beside its data
  length_framed : length span ≡ w + 4 + length f.«data»
  length_framed = ap length h.spelled ∙ simp length-append (omega (arith, h.wide))

  -- where the start and the count stand
  pub framed_start : get_or span 0 0 ≡ start
  framed_start = ap (λ s. get_or s 0 0) h.spelled

  pub framed_count : get_or span (length f.address + 2) 0 ≡ length f.«data»
  framed_count =
      let i : length f.address + 2 ≡ length (start ∷ f.address) + 1 = omega arith in
      rw i (ap (λ s. get_or s (length (start ∷ f.address) + 1) 0) (h.spelled ∙ regroup start f) ∙ get_or-append-add (start ∷ f.address) (tail f) 1 0)

  -- the count is a byte
  pub data_limit : AllByRecursion (λ b. b < 256) span → length f.«data» < 256
  data_limit bytes = omega (arith, length_framed, All-get_or (λ b. b < 256) span (length f.address + 2) 0 (omega (arith, length_framed, h.wide)) bytes, framed_count)

-- a list of bytes that is a request's frame has at most 264
pub request_limit : (span : List ℕ) (f : Parts) → AllByRecursion (λ b. b < 256) span → RequestFrame span f → length span ≤ longest_frame
request_limit span f b (inl h) = omega (arith, length_framed 2 1 span f h, data_limit 2 1 span f h b)
request_limit span f b (inr h) = omega (arith, length_framed 130 5 span f h, data_limit 130 5 span f h b)
