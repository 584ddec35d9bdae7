-- What the relations say of an answer that equals the reading by places.
use Rattle.std.proofs.Common.{◌≡◌, ℕ, ◌<◌, ◌≤◌, false, eqb, leb, ◌⊎◌, List, length, drop, IfOk, Ok, Err, Result, sym, refl, ap, ◌∙◌, inl, inr, arith, MatchResult}
use Rattle.std.specs.List.{AllByRecursion}
use Rattle.std.proofs.lemmas.Bool.{and_from, and_right, le-leb, lt-leb, eq-eqb, ne_eqb, cond-true, cond-false}
use Rattle.refusals.specs.declared.Refusal.{Refusal}
use Rattle.frame.specs.declared.Frame.{Frame}
use Rattle.frame.specs.declared.Transmission.{Transmission}
use Rattle.frame.specs.Frames.{Parts, RequestFrame, StartFrame, request_frame, start_frame, short_request, long_request}
use Rattle.frame.specs.Making.{MadeAgain}
use Rattle.frame.specs.Check.{check_of}
use Rattle.frame.specs.Transmissions.{Request, Sent, preambles_of, span_of, request_of, sent_span, read_sent, read_request}
use Rattle.frame.specs.Views.{frame_parts, request_parts, viewed}
use Rattle.frame.proofs.Frames.{read_request_lem, request_read, request_limit}
use Rattle.frame.proofs.Transmissions.{complete_sent, reads_sent, made_again}

clash : {X : Type 0} (x : X) (n : ℕ) (r : Result X ℕ) → r ≡ Ok x → Err n ≡ r → ⊥
clash x n r p q = let z : ◌≡◌ {A = ℕ} 0 1 = cc in omega arith

pub frame_means : (r : Result Frame Refusal) (span : List ℕ) → viewed frame_parts r ≡ request_frame span → MatchResult r (λ f. RequestFrame span (frame_parts f)) (λ _. (p : Parts) → RequestFrame span p → ⊥)
frame_means (Ok f) span e = read_request_lem span (frame_parts f) (sym e)
frame_means (Err k) span e = λ p h. clash p _ (request_frame span) (request_read span p h) e

pub frame_limit : (r : Result Frame Refusal) (span : List ℕ) → AllByRecursion (λ b. b < 256) span → viewed frame_parts r ≡ request_frame span → IfOk r (λ _. length span ≤ 264)
frame_limit (Ok f) span b e = request_limit span (frame_parts f) b (read_request_lem span (frame_parts f) (sym e))
frame_limit (Err k) span b e = tt

-- of a transmission, for two start bytes that differ, neither of them a preamble
module _ (short long : ℕ) (differ : eqb long short ≡ false) (a : eqb short 255 ≡ false) (b : eqb long 255 ≡ false) where
  pub sent_means : (r : Result Transmission Refusal) (bytes : List ℕ) → viewed request_parts r ≡ read_sent short long bytes → MatchResult r (λ t. Sent (StartFrame short long) (request_parts t) bytes) (λ _. (q : Request) → Sent (StartFrame short long) q bytes → ⊥)
  sent_means (Ok t) bytes e = reads_sent short long differ a b (request_parts t) bytes (sym e)
  sent_means (Err k) bytes e = λ q h. clash q _ (read_sent short long bytes) (complete_sent short long differ a b q bytes h) e

pub request_again : (r : Result Transmission Refusal) (bytes : List ℕ) → AllByRecursion (λ b. b < 256) bytes → viewed request_parts r ≡ read_request bytes → IfOk r (λ t. t.preambles ≤ 20 → MadeAgain bytes (request_parts t))
request_again (Ok t) bytes b e = made_again (request_parts t) bytes b (reads_sent short_request long_request refl refl refl (request_parts t) bytes (sym e))
request_again (Err k) bytes b e = tt

-- the reading of all bytes from that of their span, where the preambles suffice and the check is 0; and their refusal, where
-- they do not or it is not
module _ (short long : ℕ) (bytes : List ℕ) where
  pub sent_value : (n : ℕ) (span : List ℕ) (r : Result Frame Refusal) → n ≡ preambles_of bytes → span ≡ drop n bytes → 2 ≤ n → check_of span ≡ 0 → viewed frame_parts r ≡ start_frame short long span → request_of n (viewed frame_parts r) ≡ read_sent short long bytes
  sent_value n span r p s l k e =
      let t = and_from (leb 2 n) (eqb (check_of span) 0) (le-leb 2 n l) (eq-eqb (check_of span) 0 k) in
      ap (request_of n) e ∙ (sym (cond-true _ _ _ t) ∙ (ap (sent_span short long n) (s ∙ ap (λ m. drop m bytes) p) ∙ ap (λ m. sent_span short long m (span_of bytes)) p))

  pub sent_refused : (preambles_of bytes < 2) ⊎ (check_of (span_of bytes) ≡ 0 → ⊥) → Err 110 ≡ read_sent short long bytes
  sent_refused (inl h) = rw (lt-leb 2 (preambles_of bytes) h) refl
  sent_refused (inr h) = sym (cond-false _ _ _ (and_right (leb 2 (preambles_of bytes)) (eqb (check_of (span_of bytes)) 0) (ne_eqb (check_of (span_of bytes)) 0 h)))
