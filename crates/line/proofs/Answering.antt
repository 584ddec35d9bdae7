-- A reply that was made of a judgement keeps the law of answers.
use Rattle.std.proofs.Common.{◌≡◌, ℕ, ◌+◌, ◌≤◌, Bool, true, false, leb, ◌⊎◌, List, [], ◌∷◌, length, get_or, take, IfOk, Ok, Err, Result, refl, ap, ◌∙◌, subst, inl, inr, arith, length-take}
use Rattle.std.proofs.lemmas.Bool.{cases_Bool}
use Rattle.refusals.specs.Filling.{Fills}
use Rattle.refusals.specs.declared.Refusal.{Refusal}
use Rattle.frame.specs.Frames.{Parts, RequestFrame, ReplyFrame, short_request, long_request, short_reply, long_reply, short_width, long_width}
use Rattle.frame.specs.Making.{asked, request?, reply_transmission}
use Rattle.frame.specs.Transmissions.{Request, Replies, parts_with}
use Rattle.frame.specs.Views.{Makes, Made}
use Rattle.frame.proofs.Frames.{framed_start, framed_count}
use Rattle.frame.proofs.Transmissions.{length_sent}
use Rattle.line.specs.Answers.{AnswersBy}
use Rattle.line.specs.Codes.{code_number}
use Rattle.line.specs.Judgements.{Judgement, damaged, refused, accepted, carried, second_status}
use Rattle.line.specs.Replies.{reply_data}
use Rattle.record.specs.declared.Record.{Record}

wide : (span : List ℕ) (f : Parts) → RequestFrame span f → (length f.address ≡ 1) ⊎ (length f.address ≡ 5)
wide span f (inl h) = inl h.wide
wide span f (inr h) = inr h.wide

-- the reply's start for the request's
starts : (asked-span span : List ℕ) (f p : Parts) → p.address ≡ f.address → RequestFrame asked-span f → ReplyFrame span p → get_or span 0 0 ≡ get_or asked-span 0 0 + 4
starts a s f p e (inl h) (inl k) = rw (framed_start short_request short_width a f h, framed_start short_reply short_width s p k) refl
starts a s f p e (inr h) (inr k) = rw (framed_start long_request long_width a f h, framed_start long_reply long_width s p k) refl
starts a s f p e (inl h) (inr k) = absurd (omega (arith, h.wide, k.wide, ap length e))
starts a s f p e (inr h) (inl k) = absurd (omega (arith, h.wide, k.wide, ap length e))

counts : (span : List ℕ) (p : Parts) → ReplyFrame span p → get_or span (length p.address + 2) 0 ≡ length p.«data»
counts s p (inl k) = framed_count short_reply short_width s p k
counts s p (inr k) = framed_count long_reply long_width s p k

-- a call that made bytes in the front of a buffer tells their length
told : (formed : Bool) (bytes before after : List ℕ) (n : ℕ) → Fills formed bytes before (Ok n) after → n ≡ length bytes
told false bytes before after n h = let e = h.answers in let z : ◌≡◌ {A = ℕ} 0 1 = cc in absurd (omega arith)
told true bytes before after n h = elim (cases_Bool (leb (length bytes) (length before))) [
  | inl t ↦ let e = rw t at h.answers in cc
  | inr f ↦ let e = rw f at h.answers in let z : ◌≡◌ {A = ℕ} 0 1 = cc in absurd (omega arith)
]

-- what a reply carries begins with two status bytes
module _ (f : Parts) (preambles status second : ℕ) (content out out' : List ℕ) (few : preambles ≤ 15) (short : length content ≤ 24) where
  abbrev q : Request
  q = asked preambles f.address f.command (status ∷ second ∷ content)

  law : (n : ℕ) → Fills (request? q) (reply_transmission q) out (Ok n) out' → Replies q (take n out') → AnswersBy f preambles (take n out')
  law n h s span w =
      let e = told (request? q) (reply_transmission q) out out' n h in
      let l = length_sent short_reply long_reply q in
      let m = length-take n out' in
      let b : length (reply_transmission q) ≤ 50 = elim (wide span f w) [ inl e ↦ omega arith | inr e ↦ omega arith ] in
      record {
        request = f;
        status = status;
        second = second;
        «data» = content;
        whole = w;
        sent = s;
        start = starts span s.span f (parts_with q s.check) refl w s.framed;
        count = counts s.span (parts_with q s.check) s.framed ∙ omega arith;
        short = omega arith;
      }

  keeps_law : (answer : Result ℕ Refusal) → Makes reply_transmission q out answer out' → Made Replies q answer out' → IfOk answer (λ n. AnswersBy f preambles (take n out'))
  keeps_law (Ok n) h s = law n h s
  keeps_law (Err e) h s = tt

by_judgement : (f : Parts) (j : Judgement) (r : Record) (preambles : ℕ) (out out' : List ℕ) (answer : Result ℕ Refusal) → preambles ≤ 15 → length (carried j r) ≤ 26
    → Makes reply_transmission (asked preambles f.address f.command (carried j r)) out answer out' → Made Replies (asked preambles f.address f.command (carried j r)) answer out'
    → IfOk answer (λ n. AnswersBy f preambles (take n out'))
by_judgement f (damaged status) r preambles out out' answer few short h s = keeps_law f preambles status 0 [] out out' few (omega arith) answer h s
by_judgement f (refused code) r preambles out out' answer few short h s = keeps_law f preambles (code_number code) (second_status r) [] out out' few (omega arith) answer h s
by_judgement f (accepted command bytes) r preambles out out' answer few short h s = keeps_law f preambles 0 (second_status r) (reply_data command bytes r) out out' few (omega arith) answer h s

-- the same, of what the calls that make an answer gave
pub answers_by : (f : Parts) (j : Judgement) (r : Record) (preambles : ℕ) (content out out' : List ℕ) (answer : Result ℕ Refusal)
    → preambles ≡ r.fields.preambles → content ≡ carried j r → r.fields.preambles ≤ 15 → length content ≤ 26
    → Makes reply_transmission (asked preambles f.address f.command content) out answer out' → Made Replies (asked preambles f.address f.command content) answer out'
    → IfOk answer (λ n. AnswersBy f r.fields.preambles (take n out'))
answers_by f j r preambles content out out' answer p e few short h s =
    subst (λ n. IfOk answer (λ m. AnswersBy f n (take m out'))) p
    (by_judgement f j r preambles out out' answer (omega arith) (let l = ap length e in omega arith)
    (subst (λ c. Makes reply_transmission (asked preambles f.address f.command c) out answer out') e h)
    (subst (λ c. Made Replies (asked preambles f.address f.command c) answer out') e s))
