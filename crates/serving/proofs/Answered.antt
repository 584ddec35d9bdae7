-- What a channel that is meant does, from its writes and its reply.
use Rattle.std.proofs.Common.{◌≡◌, ℕ, ◌≤◌, true, leb, List, take, drop, length, Some, None, Ok, Err, Option, Result, sym, refl, ap, ◌∙◌, subst, arith}
use Rattle.std.specs.Option.{option_map}
use Rattle.std.specs.Result.{result_ok}
use Rattle.std.proofs.Math.Seq.{take-append_seam}
use Rattle.std.proofs.lemmas.Bool.{le-leb, le-ltb}
use Rattle.refusals.specs.Filling.{Fills, in_front}
use Rattle.refusals.specs.Refusals.{numbered}
use Rattle.refusals.specs.declared.Refusal.{Refusal}
use Rattle.frame.specs.Frames.{Parts, RequestFrame, request_frame}
use Rattle.frame.proofs.Frames.{read_request_lem}
use Rattle.record.specs.declared.Fields.{Fields}
use Rattle.record.specs.declared.Record.{Record}
use Rattle.rack.specs.Meaning.{channel_of}
use Rattle.rack.specs.Writes.{WriteRelation}
use Rattle.line.specs.Answers.{AnswerLaw, AnswersBy}
use Rattle.line.specs.Characters.{Reception}
use Rattle.line.specs.Judgements.{edits, changed_by, answer_bytes}
use Rattle.line.specs.Whole.{frame_of}
use Rattle.serving.specs.Answering.{Found, Ready, answering_of, FrameOf, Answers}
use Rattle.serving.specs.Serving.{Answering, answering_by, answering_to, served, Serves, Lawfully, answering_in}
use Rattle.serving.specs.AskedChannels.{record_of}
use Rattle.serving.specs.Writing.{Carried, CarriesOut}
use Rattle.serving.specs.declared.answers.Answer.{Answer}
use Rattle.serving.proofs.Chained.{held_after}
use Rattle.serving.proofs.Writes.{from_cond}

there_is : {V : Type 0} (part : Record → V) (o : Option Record) (v : V) → option_map part o ≡ Some v → (r : Record) × (o ≡ Some r) × (part r ≡ v)
there_is part (Some r) v e = (r, refl, cc)
there_is part None v e = cc

module _ {X : Type 0} (records : X → List Record) (wrote : WriteRelation X) (m : Found) (fields' : Fields) (x y : X) (ready : Ready (records x) m)
    (carries : CarriesOut records wrote m.channel m.fields (edits m.judgement) x y fields') where
  done : (r : Record) → channel_of (records x) m.channel ≡ Some r → Carried records wrote m.channel (edits m.judgement) r x y fields'
  done r is =
      let t = there_is (λ r. r.fields) (channel_of (records x) m.channel) m.fields ready.there in
      let p : t.0 ≡ r = (let u = t.1 in cc) in
      let own : r.fields ≡ m.fields = ap (λ (q : Record). q.fields) (sym p) ∙ t.2 in
      carries r is (sym own) (ready.writable r own)

  held : (r : Record) → channel_of (records x) m.channel ≡ Some r → channel_of (records y) m.channel ≡ Some (changed_by m.judgement r)
  held r is = held_after records wrote m.channel (edits m.judgement) x y r is (done r is).written

  -- the channel as it stands after the writes
  pub asked_there : option_map (λ r. r.fields) (channel_of (records y) m.channel) ≡ Some fields'
  asked_there =
      let t = there_is (λ r. r.fields) (channel_of (records x) m.channel) m.fields ready.there in
      rw (held t.0 t.1) (ap Some (sym (done t.0 t.1).fields_are))

  -- what is answered then, of which `reply` tells the bytes
  module _ (buffer buffer' : List ℕ) (a : Result ℕ Refusal) (n : ℕ) (room : 64 ≤ length buffer) where
    abbrev as_told : Record
    as_told = record_of (records y) m.channel

    pub answered : Fills true (answer_bytes m.frame m.judgement as_told) buffer (numbered a) buffer' → length (answer_bytes m.frame m.judgement as_told) ≤ 50
        → AnswersBy m.frame as_told.fields.preambles (take n buffer') → a ≡ Ok n → Answers records wrote m x y buffer buffer' (Ok (Some (record { channel = m.channel; length = n })))
    answered fills short law ok = λ r is.
        let p : as_told ≡ changed_by m.judgement r = rw (held r is) refl in
        let bytes : List ℕ = answer_bytes m.frame m.judgement (changed_by m.judgement r) in
        let l : leb (length bytes) (length buffer) ≡ true = le-leb _ _ (let s = rw p at short in omega arith) in
        let told = rw p at fills in
        let e = told.answers in
        let b = told.leaves in
        let i : n ≡ length bytes = (let q = rw (l, ok) at e in cc) in
        let front : buffer' ≡ in_front bytes buffer = (rw ok at b) in
        let whole : take n buffer' ≡ bytes = ap (λ k. take k buffer') i ∙ (ap (take (length bytes)) front ∙ take-append_seam bytes (drop (length bytes) buffer)) in
        let w = (done r is).written in
        record {
          serves = record {
            tells = ap (λ k. Ok (Some (m.channel, k))) i;
            front = front;
            leaves = w.leaves;
            writes = w.writes;
          };
          law = λ span q. subst (λ (bs : List ℕ). AnswerLaw span (changed_by m.judgement r).fields.preambles bs) whole
              (subst (λ (s : Record). AnswerLaw span s.fields.preambles (take n buffer')) p (law span q));
        }

frame_there : (x : Reception) (f : Parts) → frame_of x ≡ Some f → RequestFrame x.span f
frame_there x f e = read_request_lem x.span f (read (request_frame x.span) (from_cond (leb 2 x.preambles) (result_ok (request_frame x.span)) f e).1)
  where
    read : (a : Result Parts ℕ) → result_ok a ≡ Some f → a ≡ Ok f
    read (Ok p) e = cc
    read (Err n) e = cc

law_of : (received : Option Reception) (f : Parts) (a : Answering) → FrameOf received f → AnswersBy f a.after.fields.preambles a.bytes → Lawfully received (Some a)
law_of (Some x) f a whole law = law x.span (frame_there x f whole)
law_of None f a whole law = tt

-- of a channel that is found, what is served of the transmission
module _ {X : Type 0} (records : X → List Record) (wrote : WriteRelation X) (supply : Option ℕ) (received : Option Reception) (m : Found) (x y : X) (buffer buffer' : List ℕ)
    (room : 64 ≤ length buffer) (result : Result (Option Answer) Refusal) (ready : Ready (records x) m) (same : answering_of (records x) m ≡ answering_to supply (records x) received)
    (answers : Answers records wrote m x y buffer buffer' result) where
  the_record : (r : Record) × (channel_of (records x) m.channel ≡ Some r) × (r.fields ≡ m.fields)
  the_record = there_is (λ r. r.fields) (channel_of (records x) m.channel) m.fields ready.there

  the_answering : Answering
  the_answering = answering_by m.frame m.channel the_record.0 m.judgement

  is_answering : answering_to supply (records x) received ≡ Some the_answering
  unfolding the_answering
  is_answering = sym same ∙ rw the_record.1 refl

  is_served : served supply (records x) received buffer ≡ Ok (Some the_answering)
  is_served = rw (le-ltb (length buffer) 64 room) (ap Ok is_answering)

  pub serves : Serves records wrote (served supply (records x) received buffer) x y buffer buffer' result
  unfolding the_answering
  serves = subst (λ (s : Result (Option Answering) ℕ). Serves records wrote s x y buffer buffer' result) (sym is_served) (answers the_record.0 the_record.1).serves

  pub law : FrameOf received m.frame → Lawfully received (answering_in (served supply (records x) received buffer))
  unfolding the_answering
  law whole = subst (λ (s : Result (Option Answering) ℕ). Lawfully received (answering_in s)) (sym is_served) (law_of received m.frame the_answering whole (answers the_record.0 the_record.1).law)
