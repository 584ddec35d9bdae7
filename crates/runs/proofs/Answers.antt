-- What an answer's bytes carry.
use Rattle.std.proofs.Common.{◌≡◌, ℕ, ◌⊎◌, List, length, Some, refl, ap, ◌∙◌, inl, inr}
use Rattle.std.specs.Option.{option_map, option_and_then}
use Rattle.std.specs.Result.{result_ok}
use Rattle.std.specs.Prelude.{slice_get}
use Rattle.frame.specs.Frames.{Parts, RequestFrame, reply_frame}
use Rattle.frame.specs.Making.{start_for, frame_bytes}
use Rattle.frame.proofs.Frames.{start_read}
use Rattle.frame.proofs.Transmissions.{frames, span_behind}
use Rattle.line.specs.Answers.{content_of, status_of}
use Rattle.line.specs.Judgements.{Judgement, carried, answer_bytes}
use Rattle.record.specs.declared.Record.{Record}

pub wide : (span : List ℕ) (f : Parts) → RequestFrame span f → (length f.address ≡ 1) ⊎ (length f.address ≡ 5)
wide span f (inl h) = inl h.wide
wide span f (inr h) = inr h.wide

pub content_answer : (f : Parts) (j : Judgement) (r : Record) → (length f.address ≡ 1) ⊎ (length f.address ≡ 5) → content_of (answer_bytes f j r) ≡ Some (carried j r)
content_answer f j r w =
    let h = frames 6 134 f.address f.command (carried j r) w in
    let span = frame_bytes (start_for 6 134 (length f.address)) f.address f.command (carried j r) in
    ap (λ s. option_map (λ (f : Parts). f.«data») (result_ok (reply_frame s))) (span_behind 6 134 refl refl r.fields.preambles span _ h)
    ∙ ap (λ x. option_map (λ (f : Parts). f.«data») (result_ok x)) (start_read 6 134 refl span _ h)

pub status_answer : (f : Parts) (j : Judgement) (r : Record) → (length f.address ≡ 1) ⊎ (length f.address ≡ 5) → status_of (answer_bytes f j r) ≡ slice_get (carried j r) 0
status_answer f j r w = ap (option_and_then (λ content. slice_get content 0)) (content_answer f j r w)
