-- A gas flow channel keeps the laws of a device.
use Rattle.std.proofs.Common.{◌≡◌, ℕ, ◌≤◌, Bool, true, false, cond, ◌&&◌, eqb, ◌⊎◌, List, [], is_ok, length, Some, None, Option, sym, refl, ap, ◌∙◌, subst, inl, inr, true≢false, arith}
use Rattle.std.specs.Option.{option_map_or}
use Rattle.std.specs.Prelude.{slice_get}
use Rattle.std.proofs.lemmas.Bool.{cases_Bool, and_parts, and_from, ne_eqb}
use Rattle.frame.specs.Frames.{Parts}
use Rattle.setpoint.specs.Load.{load_of}
use Rattle.setpoint.specs.Refusals.{admitted_under}
use Rattle.setpoint.specs.Share.{share_of}
use Rattle.setpoint.specs.Value.{value_of}
use Rattle.record.specs.declared.Fields.{Fields}
use Rattle.record.specs.declared.Record.{Record}
use Rattle.rack.specs.Changes.{refused_by, written, stored_pattern, record_after}
use Rattle.line.specs.Addressing.{tag_means?, tag_of, means?}
use Rattle.line.specs.Characters.{Character, Reception, received}
use Rattle.line.specs.Codes as codes
use Rattle.line.specs.Codes.{code_number, known?, percent?, own_code, success?, asked_share}
use Rattle.line.specs.Commands.{command_of, counted?}
use Rattle.line.specs.Edits.{edits_of}
use Rattle.line.specs.Judgements.{Judgement, damaged, refused, accepted, judged_by, own_judgement, changed_by, carried, answer_bytes}
use Rattle.line.specs.Requests.{asked_of, bare}
use Rattle.line.specs.Whole.{sound?, error_status}
use Rattle.line.specs.declared.codes.ResponseCode.{ResponseCode}
use Rattle.line.specs.declared.codes.ResponseCode.TheVariants.{Success, AccessRestricted, NotImplemented}
use Rattle.line.specs.declared.commands.Command.{Command}
use Rattle.line.specs.declared.commands.Command.TheVariants.{WriteSetpoint}
use Rattle.runs.specs.Channel.{Operation, sample, key, edit_for, nameplate, Granted, granted_in, pattern_in, after_command, tells?, after_reply, after_operation, share_of_grant, setpoint_frame?, frame_asks?, asks_by?, means_by?, after_frame, own_reply_to, denial_to, frame_in, flow_channel}
use Rattle.runs.specs.Damage.{Damaged, CommunicationError}
use Rattle.runs.specs.Devices.{DeviceLaws}
use Rattle.runs.proofs.Answers.{wide, content_answer, status_answer}
use Rattle.runs.proofs.Effects.{after_write, written_nameplate, edits_nameplate, edits_granted, setpoint_kept, known_setpoint, own_setpoint, own_code_lem, load_stored}
use Rattle.runs.proofs.Unsound.{unsound, whole_frame, sound_of}

-- an address of one or five bytes
abbrev Wide : Parts → Type 0
Wide f = (length f.address ≡ 1) ⊎ (length f.address ≡ 5)

wide_in : (t : List Character) (f : Parts) → frame_in t ≡ Some f → Wide f
wide_in t f e = wide _ f (whole_frame t f e).1

pub error_above : (x : Reception) → 128 ≤ error_status x
error_above x = omega arith

error_differs : (x : Reception) (n : ℕ) → n ≤ 127 → eqb (error_status x) n ≡ false
error_differs x n l = ne_eqb (error_status x) n (λ e. omega (arith, error_above x, e))

-- what holds of each judgement of a frame: a communication error, an accepted command, a refused one
judgements : (P : Judgement → Type 0) (x : Reception) (f : Parts) (fields : Fields)
    → (sound? x ≡ false → P (damaged (error_status x)))
    → ((command : Command) → sound? x ≡ true → command_of f.command ≡ Some command → success? (own_code (Some command) f.«data» fields) ≡ true → P (accepted command f.«data»))
    → ((code : ResponseCode) → success? code ≡ false → eqb (code_number code) 16 ≡ false → P (refused code))
    → P (own_judgement x f fields)
judgements P x f fields error accept other = elim (cases_Bool (sound? x)) [
  | inr s ↦ rw s (error s)
  | inl s ↦ rw s (known s (command_of f.command) refl)
]
  where
    known : sound? x ≡ true → (o : Option Command) → command_of f.command ≡ o → P (judged_by (own_code o f.«data» fields) o f.«data»)
    known s None e = other NotImplemented refl refl
    known s (Some command) e = elim (cases_Bool (success? (own_code (Some command) f.«data» fields))) [
      | inl c ↦ rw c (accept command s e c)
      | inr c ↦ rw c (other (own_code (Some command) f.«data» fields) c (own_code_lem (Some command) f.«data» fields))
    ]

module _ (f : Parts) (w : Wide f) where
  -- the code that an answer tells, by its judgement
  abbrev Told : ResponseCode → Judgement → Bool
  Told code (damaged status) = eqb status (code_number code)
  Told code (refused given) = eqb (code_number given) (code_number code)
  Told code (accepted command bytes) = eqb 0 (code_number code)

  told : (code : ResponseCode) (j : Judgement) (r : Record) → tells? code (answer_bytes f j r) ≡ Told code j
  told code j r = ap (λ (o : Option ℕ). option_map_or (λ n. eqb n (code_number code)) o false) (status_answer f j r w) ∙ by_case j
    where
      by_case : (j : Judgement) → option_map_or (λ n. eqb n (code_number code)) (slice_get (carried j r) 0) false ≡ Told code j
      by_case (damaged status) = refl
      by_case (refused given) = refl
      by_case (accepted command bytes) = refl

  module _ (x : Reception) (r : Record) where
    served_nameplate_of : nameplate (after_frame x r f) ≡ nameplate r
    served_nameplate_of = judgements (λ j. nameplate (changed_by j r) ≡ nameplate r) x f r.fields (λ _. refl) (λ command _ _ _. edits_nameplate (edits_of command f.«data») r) (λ _ _ _. refl)

    -- what is granted where this is told
    abbrev Grants : Bool → Granted
    Grants b = cond b (option_map_or (after_command f.«data» (granted_in r)) (command_of f.command) (granted_in r)) (granted_in r)

    served_grant_of : granted_in (after_frame x r f) ≡ after_reply f (granted_in r) (own_reply_to x r f)
    served_grant_of =
        judgements (λ j. granted_in (changed_by j r) ≡ Grants (Told Success j)) x f r.fields
        (λ _. rw (error_differs x 0 (omega arith)) refl)
        (λ command _ e _. rw e (edits_granted command f.«data» r))
        (λ code c _. rw c refl)
        ∙ sym (ap Grants (told Success (own_judgement x f r.fields) (after_frame x r f)))

    reply_differs_of : tells? AccessRestricted (own_reply_to x r f) ≡ false
    reply_differs_of =
        told AccessRestricted (own_judgement x f r.fields) (after_frame x r f)
        ∙ judgements (λ j. Told AccessRestricted j ≡ false) x f r.fields (λ _. error_differs x 16 (omega arith)) (λ _ _ _ _. refl) (λ _ _ d. d)

    -- a command that asks for nothing leaves the setpoint
    served_share_of : frame_asks? x r f ≡ false → (granted_in (after_frame x r f)).setpoint ≡ r.fields.setpoint
    served_share_of a = judgements (λ j. (granted_in (changed_by j r)).setpoint ≡ r.fields.setpoint) x f r.fields
        (λ _. refl)
        (λ command s e c.
        let k : codes.setpoint? command ≡ false = elim (cases_Bool (codes.setpoint? command)) [
          | inl p ↦
              let own : codes.asks? (command_of f.command) f.«data» r.fields ≡ true =
              subst (λ (o : Option Command). codes.asks? o f.«data» r.fields ≡ true) (sym e) (and_from (codes.setpoint? command) (success? (own_code (Some command) f.«data» r.fields)) p c) in
              absurd (true≢false (sym (and_from (sound? x) (codes.asks? (command_of f.command) f.«data» r.fields) s own) ∙ a))
          | inr p ↦ p
        ] in
        ap (λ (g : Granted). g.setpoint) (edits_granted command f.«data» r) ∙ setpoint_kept command f.«data» (granted_in r) k)
        (λ _ _ _. refl)

    asks_parts : frame_asks? x r f ≡ true → (sound? x ≡ true) × (command_of f.command ≡ Some WriteSetpoint) × (success? (own_code (Some WriteSetpoint) f.«data» r.fields) ≡ true)
    asks_parts a =
        let p = and_parts (sound? x) (codes.asks? (command_of f.command) f.«data» r.fields) a in
        let q = and_parts (setpoint_frame? f) (success? (own_code (command_of f.command) f.«data» r.fields)) p.1 in
        let e = known_setpoint (command_of f.command) q.0 in
        (p.0, e, rw e at q.1)

    asked_setpoint_of : frame_asks? x r f ≡ true → (granted_in (after_frame x r f)).setpoint ≡ stored_pattern (pattern_in f.«data»)
    asked_setpoint_of a =
        let p = asks_parts a in
        let s = p.0 in
        let e = p.1 in
        let c = p.2 in
        rw (s, e, c) refl

  denied_grant_of : (r : Record) → after_reply f (granted_in r) (denial_to r f) ≡ granted_in r
  denied_grant_of r = ap (λ b. cond b (option_map_or (after_command f.«data» (granted_in r)) (command_of f.command) (granted_in r)) (granted_in r)) (told Success (refused AccessRestricted) r)

  denial_is_of : (r : Record) → tells? AccessRestricted (denial_to r f) ≡ true
  denial_is_of r = told AccessRestricted (refused AccessRestricted) r

-- a setpoint command is judged by nameplate and grants
asks_own : (o : Option Command) (bytes : List ℕ) (r : Record)
    → codes.asks? o bytes r.fields ≡ (known? codes.setpoint? o && (counted? WriteSetpoint bytes && (r.fields.key_open && (percent? bytes && is_ok (admitted_under r.fields.ceiling (value_of (pattern_in bytes)))))))
asks_own None bytes r = refl
asks_own (Some WriteSetpoint) bytes r = own_setpoint bytes r.fields
asks_own (Some command) bytes r = refl

and_true : (b : Bool) → (b && true) ≡ b
and_true true = refl
and_true false = refl

untagged : (o : Option Command) (n : ℕ) (bytes tag : List ℕ) → known? codes.setpoint? o ≡ true → tag_means? (option_map_or (λ c. asked_of c bytes) o (bare n)) tag ≡ true
untagged o n bytes tag e = let k = known_setpoint o e in rw k refl

meant_by_of : (f : Parts) (r : Record) → setpoint_frame? f ≡ true → means? f r ≡ means_by? (nameplate r) (granted_in r) f
meant_by_of f r e = let m = means_by? (nameplate r) (granted_in r) f in ap (λ b. m && b) (untagged (command_of f.command) f.command f.«data» (tag_of r) e) ∙ and_true m

-- local operations
operated_grant_of : (r : Record) (u : Operation) → granted_in (record_after (written (edit_for u) r) r) ≡ after_operation (granted_in r) u (refused_by (edit_for u) r.fields)
operated_grant_of r (sample reading) = after_write (λ s. granted_in s ≡ granted_in r) (edit_for (sample reading)) r refl refl
operated_grant_of r (key open?) = refl

operated_setpoint_of : (r : Record) (u : Operation) → (record_after (written (edit_for u) r) r).fields.setpoint ≡ r.fields.setpoint
operated_setpoint_of r (sample reading) = after_write (λ s. s.fields.setpoint ≡ r.fields.setpoint) (edit_for (sample reading)) r refl refl
operated_setpoint_of r (key open?) = refl

-- damage
damaged_false : (t : List Character) (f : Parts) → frame_in t ≡ Some f → Damaged t → sound? (received t) ≡ false
damaged_false t f e d = elim (cases_Bool (sound? (received t))) [
  | inl s ↦ absurd (unsound t d (sound_of t f e s))
  | inr s ↦ s
]

damaged_judgement : (t : List Character) (f : Parts) (r : Record) → frame_in t ≡ Some f → Damaged t → own_judgement (received t) f r.fields ≡ damaged (error_status (received t))
damaged_judgement t f r e d = rw (damaged_false t f e d) refl

-- each law, whether the transmission is whole or not
module _ (t : List Character) (r : Record) where
  abbrev At : (Option Parts → Type 0) → Type 0
  At P = (o : Option Parts) → frame_in t ≡ o → P o

  -- what is made of a frame, if there is one
  abbrev made : {X : Type 0} → Option Parts → X → (Parts → X) → X
  made o otherwise make = option_map_or make o otherwise

  abbrev served : Option Parts → Record
  served o = made o r (after_frame (received t) r)

  nameplate_law : At (λ o. nameplate (served o) ≡ nameplate r)
  nameplate_law (Some f) e = served_nameplate_of f (wide_in t f e) (received t) r
  nameplate_law None e = refl

  grant_law : At (λ o. granted_in (served o) ≡ made o (granted_in r) (λ f. after_reply f (granted_in r) (made o [] (own_reply_to (received t) r))))
  grant_law (Some f) e = served_grant_of f (wide_in t f e) (received t) r
  grant_law None e = refl

  denied_law : At (λ o. made o (granted_in r) (λ f. after_reply f (granted_in r) (made o [] (denial_to r))) ≡ granted_in r)
  denied_law (Some f) e = denied_grant_of f (wide_in t f e) r
  denied_law None e = refl

  kept_law : At (λ o. made o false (frame_asks? (received t) r) ≡ false → (granted_in (served o)).setpoint ≡ r.fields.setpoint)
  kept_law (Some f) e = served_share_of f (wide_in t f e) (received t) r
  kept_law None e = λ _. refl

  asked_law : At (λ o. made o false (frame_asks? (received t) r) ≡ true → share_of_grant (nameplate r) (granted_in (served o)) ≡ made o 0 (λ f. asked_share f.«data» r.fields.full_scale))
  asked_law (Some f) e = λ a. ap (λ p. share_of (load_of (value_of p)) r.fields.full_scale) (asked_setpoint_of f (wide_in t f e) (received t) r a) ∙ ap (λ l. share_of l r.fields.full_scale) (load_stored (pattern_in f.«data»))
  asked_law None e = λ a. absurd (true≢false (sym a))

  differs_law : At (λ o. made o false (λ f. means? f r) ≡ true → tells? AccessRestricted (made o [] (own_reply_to (received t) r)) ≡ false)
  differs_law (Some f) e = λ _. reply_differs_of f (wide_in t f e) (received t) r
  differs_law None e = λ m. absurd (true≢false (sym m))

  denial_law : At (λ o. made o false (λ f. means? f r) ≡ true → tells? AccessRestricted (made o [] (denial_to r)) ≡ true)
  denial_law (Some f) e = λ _. denial_is_of f (wide_in t f e) r
  denial_law None e = λ m. absurd (true≢false (sym m))

  command_law : At (λ o. made o false (frame_asks? (received t) r) ≡ true → made o false setpoint_frame? ≡ true)
  command_law (Some f) e = λ a. ap (known? codes.setpoint?) (asks_parts f (wide_in t f e) (received t) r a).1
  command_law None e = λ a. a

  asks_law : At (λ o. made o false (frame_asks? (received t) r) ≡ made o false (asks_by? (received t) (nameplate r) (granted_in r)))
  asks_law (Some f) e = ap (λ b. sound? (received t) && b) (asks_own (command_of f.command) f.«data» r)
  asks_law None e = refl

  meant_law : At (λ o. made o false setpoint_frame? ≡ true → made o false (λ f. means? f r) ≡ made o false (means_by? (nameplate r) (granted_in r)))
  meant_law (Some f) e = meant_by_of f r
  meant_law None e = λ _. refl

  unserved_law : Damaged t → At (λ o. served o ≡ r)
  unserved_law d (Some f) e = ap (λ (j : Judgement). changed_by j r) (damaged_judgement t f r e d)
  unserved_law d None e = refl

  unasked_law : Damaged t → At (λ o. made o false (frame_asks? (received t) r) ≡ false)
  unasked_law d (Some f) e = rw (damaged_false t f e d) refl
  unasked_law d None e = refl

  error_law : Damaged t → At (λ o. made o false (λ f. means? f r) ≡ true → CommunicationError (made o [] (own_reply_to (received t) r)))
  error_law d (Some f) e = λ _. record {
    status = error_status (received t);
    carries =
        let s = after_frame (received t) r f in
        content_answer f (own_judgement (received t) f r.fields) s (wide_in t f e) ∙ ap (λ (j : Judgement). Some (carried j s)) (damaged_judgement t f r e d);
    error = error_above (received t);
  }
  error_law d None e = λ m. absurd (true≢false (sym m))

pub flow_channel_laws : DeviceLaws flow_channel
flow_channel_laws = record {
  served_nameplate = λ r t. nameplate_law t r (frame_in t) refl;
  operated_nameplate = λ r u. written_nameplate (edit_for u) r;
  served_grant = λ r t. grant_law t r (frame_in t) refl;
  denied_grant = λ r t _. denied_law t r (frame_in t) refl;
  operated_grant = operated_grant_of;
  served_share = λ r t a. ap (λ p. share_of (load_of (value_of p)) r.fields.full_scale) (kept_law t r (frame_in t) refl a);
  asked_share = λ r t. asked_law t r (frame_in t) refl;
  operated_share = λ r u. ap (λ p. share_of (load_of (value_of p)) r.fields.full_scale) (operated_setpoint_of r u);
  reply_differs = λ r t. differs_law t r (frame_in t) refl;
  denial_is = λ r t m _. denial_law t r (frame_in t) refl m;
  asks_setpoint = λ r t. command_law t r (frame_in t) refl;
  asks_by = λ r t. asks_law t r (frame_in t) refl;
  meant_by = λ r t. meant_law t r (frame_in t) refl;
  damaged_served = λ r t d. unserved_law t r d (frame_in t) refl;
  damaged_asks = λ r t d. unasked_law t r d (frame_in t) refl;
  damaged_reply = λ r t d. error_law t r d (frame_in t) refl;
}
