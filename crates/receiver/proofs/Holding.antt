-- A receiver that holds a transmission holds it with one character more.
use Rattle.std.proofs.Common.{◌≡◌, ℕ, ◌<◌, min, false, ltb, List, [], ◌∷◌, ◌++◌, length, take, Some, None, inl, inr, arith, sym, ap, ◌∙◌}
use Rattle.std.proofs.lemmas.Bool.{cases_Bool, ltb-false}
use Rattle.std.proofs.lemmas.List.{take_all}
use Rattle.std.proofs.ByRecursion.{All-push}
use Rattle.line.specs.Characters.{Character, Reception, Keeps, received}
use Rattle.receiver.specs.Holding.{Holds}
use Rattle.receiver.specs.Summaries.{Summary, summary_of, pushed, held, handed_on}
use Rattle.receiver.specs.declared.state.Receiver.{Receiver}
use Rattle.receiver.proofs.Receptions.{received_more, summary_more}

pub holds_more : (r r' : Receiver) (c : Character) → c.byte < 256 → held r' ≡ pushed (held r) c → (t : List Character) → Holds r t → Holds r' (t ++ (c ∷ []))
holds_more r r' c b e t h = record {
  bytes = All-push (λ c. c.byte < 256) t c h.bytes b;
  kept = e ∙ (ap (λ s. pushed s c) h.kept ∙ (sym (summary_more (received t) c) ∙ ap summary_of (sym (received_more t c))));
}

-- a span that is not too long is kept whole
whole_span_kept : (span : List ℕ) → ltb 264 (length span) ≡ false → take 264 span ≡ span
whole_span_kept span e = take_all 264 span (ltb-false 264 (length span) e)

keeps_by : (s : Summary) (x : Reception) (t : List Character) → Some x ≡ handed_on s → s ≡ summary_of (received t) → Keeps x t
keeps_by s x t e k = elim (cases_Bool (ltb 264 (length (received t).span))) [
  | inl b ↦ let h : Some x ≡ None = (let f = e ∙ ap handed_on k in rw b at f) in cc
  | inr b ↦
      let y = received t in
      let h : Some x ≡ Some (record { preambles = min y.preambles 2; span = take 264 y.span; marks = y.marks }) = (let f = e ∙ ap handed_on k in rw b at f) in
      let p : x ≡ record { preambles = min y.preambles 2; span = take 264 y.span; marks = y.marks } = cc in
      record {
        preambles = (let q : x.preambles ≡ min y.preambles 2 = ap (λ (z : Reception). z.preambles) p in omega arith);
        span = ap (λ (z : Reception). z.span) p ∙ whole_span_kept y.span b;
        marks = ap (λ (z : Reception). z.marks) p;
      }
]

pub keeps_some : (r : Receiver) (x : Reception) → Some x ≡ handed_on (held r) → (t : List Character) → Holds r t → Keeps x t
keeps_some r x e t h = keeps_by (held r) x t e h.kept
