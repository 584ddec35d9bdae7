-- The judgement of a frame beside the other channels' shares, with what the header objects to apart.
use Rattle.std.proofs.Common.{◌≡◌, ℕ, ◌+◌, Bool, true, false, cond, not, ◌&&◌, ltb, leb, List, Ok, Err, Some, None, Option, Result, refl, ap, ◌∙◌, inl, inr, arith}
use Rattle.std.proofs.lemmas.Bool.{cases_Bool}
use Rattle.std.proofs.lemmas.Bool.Decides.{nat_tests}
use Rattle.frame.specs.Frames.{Parts}
use Rattle.header.specs.Shares.{capacity_of, fits?}
use Rattle.setpoint.specs.Refusals.{admitted_under}
use Rattle.setpoint.specs.Value.{value_of}
use Rattle.setpoint.specs.declared.SetpointRefusal.{SetpointRefusal}
use Rattle.setpoint.specs.declared.SetpointRefusal.TheVariants.{NotANumber, AboveCeiling, BelowZero}
use Rattle.record.specs.declared.Fields.{Fields}
use Rattle.record.specs.declared.Record.{Record}
use Rattle.line.specs.Allotments.{Allotment}
use Rattle.line.specs.Characters.{Reception}
use Rattle.line.specs.Codes as codes
use Rattle.line.specs.Codes.{percent?, first_given, code_of, own_code, success?, asked_share}
use Rattle.line.specs.Commands.{command_of, counted?}
use Rattle.line.specs.Judgements.{refused, judged_by, judgement, own_judgement}
use Rattle.line.specs.Whole.{sound?}
use Rattle.line.specs.declared.codes.ResponseCode.{ResponseCode}
use Rattle.line.specs.declared.codes.ResponseCode.TheVariants.{AccessRestricted}
use Rattle.line.specs.declared.commands.Command.{Command}
use Rattle.line.specs.declared.commands.Command.TheVariants.{WriteSetpoint}
use Rattle.runs.specs.Channel.{pattern_in, frame_asks?}
use Rattle.runs.proofs.Effects.{Tested}

above : (c n : ℕ) → not (leb n c) ≡ ltb c n
above c n = grind (arith, nat_tests)

-- the tests of the codes of a setpoint command, whether its share fits among them
abbrev Beside : Bool → Bool → Bool → Result ℕ SetpointRefusal → Bool → ResponseCode → Bool
Beside counted open? percent a fit AccessRestricted = not fit
Beside counted open? percent a fit code = Tested counted open? percent a code

beside : (counted open? percent : Bool) (a : Result ℕ SetpointRefusal) (fit : Bool) (bytes : List ℕ)
    → judged_by (first_given (Beside counted open? percent a fit)) (Some WriteSetpoint) bytes
    ≡ cond (success? (first_given (Tested counted open? percent a)) && not fit) (refused AccessRestricted) (judged_by (first_given (Tested counted open? percent a)) (Some WriteSetpoint) bytes)
beside false open? percent a fit bytes = refl
beside true false percent a fit bytes = refl
beside true true false a fit bytes = refl
beside true true true (Ok load) true bytes = refl
beside true true true (Ok load) false bytes = refl
beside true true true (Err NotANumber) fit bytes = refl
beside true true true (Err AboveCeiling) fit bytes = refl
beside true true true (Err BelowZero) fit bytes = refl

-- what the header objects to, of a command with its data
abbrev Objects : Option Command → List ℕ → Fields → Allotment → Bool
Objects o bytes f a = codes.asks? o bytes f && ltb (capacity_of a.supply) (a.others + asked_share bytes f.full_scale)

split : (o : Option Command) (bytes : List ℕ) (f : Fields) (a : Allotment)
    → judged_by (code_of o bytes f a) o bytes ≡ cond (Objects o bytes f a) (refused AccessRestricted) (judged_by (own_code o bytes f) o bytes)
split None bytes f a = refl
split (Some WriteSetpoint) bytes f a =
    let share = a.others + asked_share bytes f.full_scale in
    let own = own_code (Some WriteSetpoint) bytes f in
    beside (counted? WriteSetpoint bytes) f.key_open (percent? bytes) (admitted_under f.ceiling (value_of (pattern_in bytes))) (fits? a.supply share) bytes
    ∙ ap (λ b. cond (success? own && b) (refused AccessRestricted) (judged_by own (Some WriteSetpoint) bytes)) (above (capacity_of a.supply) share)
split (Some command) bytes f a = refl

-- a setpoint command that asks for more than the others leave is refused by the header; every other is judged by the channel alone
pub judgement_split : (x : Reception) (f : Parts) (r : Record) (a : Allotment)
    → judgement x f r.fields a ≡ cond (frame_asks? x r f && ltb (capacity_of a.supply) (a.others + asked_share f.«data» r.fields.full_scale)) (refused AccessRestricted) (own_judgement x f r.fields)
judgement_split x f r a = elim (cases_Bool (sound? x)) [
  | inr s ↦ rw s refl
  | inl s ↦ rw s (split (command_of f.command) f.«data» r.fields a)
]
