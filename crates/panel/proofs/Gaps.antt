-- A gap serves just what the run relation says.
use Rattle.std.proofs.Common.{◌≡◌, ℕ, suc, ◌+◌, ◌<◌, ◌≤◌, min, Bool, true, false, cond, ◌&&◌, ltb, leb, List, [], ◌∷◌, length, take, set, IfSome, Some, None, Ok, Err, Option, slice_get, length-set, sym, refl, ap, subst, ◌∙◌, inl, inr, arith}
use Rattle.std.specs.List.{AllByRecursion}
use Rattle.std.specs.Option.{option_map, option_and_then, option_map_or}
use Rattle.std.specs.Result.{result_ok}
use Rattle.std.proofs.ByRecursion.{All-drop}
use Rattle.std.proofs.lemmas.Bool.{cases_Bool, le-leb, le-ltb, ltb-true, ltb-false, cond-true}
use Rattle.std.proofs.lemmas.Bool.Decides.{nat_tests}
use Rattle.std.proofs.lemmas.List.{take_all}
use Rattle.frame.specs.Frames.{Parts, request_frame}
use Rattle.frame.specs.Transmissions.{preambles_of, span_of}
use Rattle.frame.proofs.Frames.{request_limit}
use Rattle.header.specs.Shares.{capacity_of}
use Rattle.line.specs.Addressing.{means?}
use Rattle.line.specs.Answers.{AnswerLaw}
use Rattle.line.specs.Characters.{Character, Reception, bytes_in, received}
use Rattle.line.specs.Codes.{asked_share}
use Rattle.line.specs.Judgements.{Judgement, refused, judgement, own_judgement}
use Rattle.line.specs.declared.codes.ResponseCode.TheVariants.{AccessRestricted}
use Rattle.rack.specs.Meaning.{channel_of}
use Rattle.record.specs.declared.Record.{Record}
use Rattle.runs.specs.Channel.{flow_channel, frame_in, frame_asks?, denial_to, own_reply_to, after_frame}
use Rattle.runs.specs.Outcomes.{Outcome, outcome, outcome_of, sole, answered_by, ended}
use Rattle.runs.specs.Places.{only_place}
use Rattle.runs.specs.Shares.{others}
use Rattle.runs.specs.Traces.{gap, silent, answered}
use Rattle.runs.proofs.Judgements.{judgement_split}
use Rattle.runs.proofs.Places.{at_get, set_same}
use Rattle.runs.proofs.Unsound.{whole_frame}
use Rattle.serving.specs.Meant.{sole_meant}
use Rattle.serving.specs.Serving.{Answering, allotment_of, answering_by, answering_at, answering_to, answering_in, served, records_after, Lawfully}
use Rattle.receiver.specs.Summaries.{Summary, summary_of, held, handed_on}
use Rattle.receiver.specs.Holding.{Holds, pending}
use Rattle.receiver.proofs.Pending.{holds_pending}
use Rattle.receiver.specs.declared.state.Receiver.{Receiver}
use Rattle.panel.specs.Panels.{outcome_for, answering_result}
use Rattle.panel.proofs.Doing.{Comes, comes}
use Rattle.panel.proofs.Places.{element_channel}

-- what an answering channel leaves of the records, and its answer
abbrev pub outcome_as : List Record → Option Answering → Outcome flow_channel
outcome_as records answering = outcome_of flow_channel (answering_result answering) (records_after answering records) []

module _ (supply : ℕ) (records : List Record) (t : List Character) (place : ℕ) (r : Record) where
  abbrev x : Reception
  x = received t

  -- the outcome at a channel, by the frame of the transmission
  abbrev chosen : Option Parts → Outcome flow_channel
  chosen o =
      cond (option_map_or (frame_asks? x r) o false && ltb (capacity_of supply) (others flow_channel records place + option_map_or (λ f. asked_share f.«data» r.fields.full_scale) o 0))
      (outcome_of flow_channel (answered place (option_map_or (denial_to r) o [])) records [])
      (outcome_of flow_channel (answered place (option_map_or (own_reply_to x r) o [])) (set records place (option_map_or (after_frame x r) o r)) [])

  abbrev judged : Parts → Judgement → Outcome flow_channel
  judged f j = outcome_as records (Some (answering_by f place r j))

  objected : (f : Parts) (b : Bool) → slice_get records place ≡ Some r
      → cond b (outcome_of flow_channel (answered place (denial_to r f)) records []) (judged f (own_judgement x f r.fields)) ≡ judged f (cond b (refused AccessRestricted) (own_judgement x f r.fields))
  objected f true e = ap (λ (qs : List Record). outcome_of flow_channel (answered place (denial_to r f)) qs []) (sym (set_same (at_get records place e)))
  objected f false e = refl

  answers : (f : Parts) → frame_in t ≡ Some f → slice_get records place ≡ Some r
      → answered_by flow_channel (capacity_of supply) records t place (Some r) ≡ judged f (judgement x f r.fields (allotment_of supply records place))
  answers f framed e =
      ap chosen framed
      ∙ (objected f (frame_asks? x r f && ltb (capacity_of supply) (others flow_channel records place + asked_share f.«data» r.fields.full_scale)) e
      ∙ ap (judged f) (sym (judgement_split x f r (allotment_of supply records place))))

-- what answers, by the frame
abbrev by_frame : ℕ → List Record → List Character → Option Parts → Option Answering
by_frame supply records t o = option_and_then (λ f. option_and_then (λ place. answering_at supply records (received t) f place) (sole_meant f records)) o

module _ (supply : ℕ) (records : List Record) (t : List Character) (few : length records ≤ 15) where
  at_record : (f : Parts) → frame_in t ≡ Some f → (place : ℕ) (o : Option Record) → channel_of records place ≡ o
      → answered_by flow_channel (capacity_of supply) records t place o
      ≡ outcome_as records (option_map (λ r. answering_by f place r (judgement (received t) f r.fields (allotment_of supply records place))) o)
  at_record f framed place (Some r) e = answers supply records t place r f framed (element_channel records place few ∙ e)
  at_record f framed place None e = refl

  at_place : (f : Parts) → frame_in t ≡ Some f → (o : Option ℕ)
      → ended flow_channel (capacity_of supply) records t o ≡ outcome_as records (option_and_then (λ place. answering_at supply records (received t) f place) o)
  at_place f framed (Some place) = ap (answered_by flow_channel (capacity_of supply) records t place) (element_channel records place few) ∙ at_record f framed place (channel_of records place) refl
  at_place f framed None = refl

  -- whom a transmission means, by its frame
  abbrev meant_by : Option Parts → Record → Bool
  meant_by o r = option_map_or (λ f. means? f r) o false

  never : (qs : List Record) → only_place (meant_by None) qs ≡ None
  never [] = refl
  never (q ∷ qs) = ap (λ o. option_map suc o) (never qs)

  at_frame : (o : Option Parts) → frame_in t ≡ o → ended flow_channel (capacity_of supply) records t (sole flow_channel records t) ≡ outcome_as records (by_frame supply records t o)
  at_frame (Some f) e =
      ap (ended flow_channel (capacity_of supply) records t) (ap (λ (o : Option Parts). only_place (meant_by o) records) e ∙ sym (cond-true _ _ _ (le-leb (length records) 15 few)))
      ∙ at_place f e (sole_meant f records)
  at_frame None e = ap (ended flow_channel (capacity_of supply) records t) (ap (λ (o : Option Parts). only_place (meant_by o) records) e ∙ never records)

  gap_replied : (n : ℕ) → 64 ≤ n → outcome flow_channel (capacity_of supply) records t (gap n) ≡ outcome_as records (answering_to (Some supply) records (Some (received t)))
  gap_replied n l = rw (le-ltb n 64 l) (at_frame (frame_in t) refl)

-- two preambles are as good as more
abbrev low : Reception → Reception
low x = record { preambles = min x.preambles 2; span = x.span; marks = x.marks }

two : (p : ℕ) → leb 2 (min p 2) ≡ leb 2 p
two p = grind (arith, nat_tests)

-- more than 264 bytes are no frame
bytes_all : (t : List Character) → AllByRecursion (λ c. c.byte < 256) t → AllByRecursion (λ b. b < 256) (bytes_in t)
bytes_all [] a = tt
bytes_all (c ∷ t) a = (a.0, bytes_all t a.1)

long_none : (t : List Character) → AllByRecursion (λ c. c.byte < 256) t → 264 < length (span_of (bytes_in t)) → (o : Option Parts) → frame_in t ≡ o → o ≡ None
long_none t a l (Some f) e =
    let h = request_limit (span_of (bytes_in t)) f (All-drop (λ b. b < 256) (preambles_of (bytes_in t)) (bytes_in t) (bytes_all t a)) (whole_frame t f e).1 in
    absurd (omega arith)
long_none t a l None e = refl

module _ (supply : ℕ) (records : List Record) (t : List Character) where
  low_replied : answering_to (Some supply) records (Some (low (received t))) ≡ answering_to (Some supply) records (Some (received t))
  low_replied = ap (λ b. by_frame supply records t (cond b (result_ok (request_frame (received t).span)) None)) (two (received t).preambles)

  -- what is kept of a transmission is answered as the transmission is
  kept_replied : AllByRecursion (λ c. c.byte < 256) t → answering_to (Some supply) records (handed_on (summary_of (received t))) ≡ answering_to (Some supply) records (Some (received t))
  kept_replied a = elim (cases_Bool (ltb 264 (length (span_of (bytes_in t))))) [
    | inl b ↦ rw b (ap (by_frame supply records t) (sym (long_none t a (ltb-true 264 (length (span_of (bytes_in t))) b) (frame_in t) refl)))
    | inr b ↦
        let s = take_all 264 (span_of (bytes_in t)) (ltb-false 264 (length (span_of (bytes_in t))) b) in
        rw b (ap (λ (u : List ℕ). answering_to (Some supply) records (Some (record { preambles = min (received t).preambles 2; span = u; marks = (received t).marks }))) s ∙ low_replied)
  ]

-- the law of the bytes that are kept is that of the whole transmission
law_whole : (x : Reception) (b : Bool) → ltb 264 (length x.span) ≡ b → (a : Option Answering) → (b ≡ true → a ≡ None)
    → Lawfully (cond b None (Some (record { preambles = min x.preambles 2; span = take 264 x.span; marks = x.marks }))) a → Lawfully (Some x) a
law_whole x true e None none l = tt
law_whole x true e (Some a) none l = absurd (let h = none refl in cc)
law_whole x false e None none l = tt
law_whole x false e (Some a) none l = subst (λ (u : List ℕ). AnswerLaw u a.after.fields.preambles a.bytes) (take_all 264 x.span (ltb-false 264 (length x.span) e)) l

-- a transmission that is too long has no answer
unanswered : (supply : Option ℕ) (records : List Record) (b : Bool) → answering_in (cond b (Err 102) (Ok (answering_to supply records None))) ≡ None
unanswered None records true = refl
unanswered None records false = refl
unanswered (Some supply) records true = refl
unanswered (Some supply) records false = refl

module _ (supply : Option ℕ) (records : List Record) (x : Receiver) (buffer : List ℕ) where
  abbrev the_reception : Reception
  the_reception = received (pending x)

  abbrev kept_answering : Option Answering
  kept_answering = answering_in (served supply records (handed_on (held x)) buffer)

  replied_by : (o : Option ℕ) → answering_to o records (Some the_reception) ≡ answering_to o records (handed_on (held x))
  replied_by None = refl
  replied_by (Some n) =
      let h = holds_pending x in
      sym (ap (λ (s : Summary). answering_to (Some n) records (handed_on s)) h.kept ∙ kept_replied n records (pending x) h.bytes)

  -- what answers by what is kept is what answers by the pending characters
  pub pending_served : answering_in (served supply records (Some the_reception) buffer) ≡ kept_answering
  pending_served = ap (λ (a : Option Answering). answering_in (cond (ltb (length buffer) 64) (Err 102) (Ok a))) (replied_by supply)

  none_kept : ltb 264 (length the_reception.span) ≡ true → kept_answering ≡ None
  none_kept e =
      let k : handed_on (held x) ≡ None = ap handed_on (holds_pending x).kept ∙ rw e refl in
      subst (λ (y : Option Reception). answering_in (served supply records y buffer) ≡ None) (sym k) (unanswered supply records (ltb (length buffer) 64))

  pub pending_lawful : Lawfully (handed_on (held x)) kept_answering → Lawfully (Some the_reception) (answering_in (served supply records (Some the_reception) buffer))
  pending_lawful l =
      let k = subst (λ (s : Summary). Lawfully (handed_on s) kept_answering) (holds_pending x).kept l in
      subst (λ (a : Option Answering). Lawfully (Some the_reception) a) (sym pending_served) (law_whole the_reception (ltb 264 (length the_reception.span)) refl kept_answering none_kept k)

-- without channels a gap is silent
silent_gap : (records : List Record) (t : List Character) (n : ℕ) → 64 ≤ n → outcome_for None records t (gap n) ≡ outcome_of flow_channel silent [] []
silent_gap records t n l = rw (le-ltb n 64 l) refl

module _ (records : List Record) (x x' : Receiver) (t : List Character) (n : ℕ) (holds : Holds x t) (room : 64 ≤ n) (new : Holds x' []) where
  -- what answers, by what the receiver keeps
  abbrev answering : Option ℕ → Option Answering
  answering supply = answering_to supply records (handed_on (held x))

  pub gap_comes : (supply : Option ℕ) → IfSome supply (λ _. length records ≤ 15)
      → Comes supply records (records_after (answering supply) records) x' (outcome_for supply records t (gap n)) (answering_result (answering supply))
  gap_comes None few = comes None records x' (outcome_for None records t (gap n)) silent [] (silent_gap records t n room) new
  gap_comes (Some supply) few =
      let k : answering (Some supply) ≡ answering_to (Some supply) records (Some (received t)) = ap (λ (s : Summary). answering_to (Some supply) records (handed_on s)) holds.kept ∙ kept_replied supply records t holds.bytes in
      let o : outcome_for (Some supply) records t (gap n) ≡ outcome_as records (answering (Some supply)) = gap_replied supply records t few n room ∙ ap (outcome_as records) (sym k) in
      subst (λ (p : Outcome flow_channel). Comes (Some supply) records (records_after (answering (Some supply)) records) x' p (answering_result (answering (Some supply)))) (sym o) (record { result_is = refl; records_are = refl; holds = new })

-- an answering channel keeps the number of records
pub count_after : (answering : Option Answering) (records : List Record) → length (records_after answering records) ≡ length records
count_after (Some r) records = length-set records r.channel r.after
count_after None records = refl
