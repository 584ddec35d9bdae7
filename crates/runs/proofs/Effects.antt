-- What judgements and local operations make of a record's nameplate and grants.
use Rattle.std.proofs.Common.{◌≡◌, ℕ, Bool, true, false, cond, not, ◌&&◌, ◌||◌, eqb, List, [], ◌∷◌, is_ok, find, Some, None, Ok, Err, Option, Result, sym, refl, ◌∙◌, inl, inr, true≢false}
use lib.Ieee
use Rattle.std.specs.Option.{option_map_or, unwrap_or}
use Rattle.std.proofs.lemmas.Bool.{cases_Bool, eqb-true}
use Rattle.setpoint.specs.Load.{load_of}
use Rattle.setpoint.specs.Numbers.{minus_zero}
use Rattle.setpoint.specs.Refusals.{admitted_under}
use Rattle.setpoint.specs.Value.{value_of}
use Rattle.setpoint.specs.declared.SetpointRefusal.{SetpointRefusal}
use Rattle.setpoint.specs.declared.SetpointRefusal.TheVariants.{NotANumber, AboveCeiling, BelowZero}
use Rattle.record.specs.declared.Fields.{Fields}
use Rattle.record.specs.declared.Record.{Record}
use Rattle.rack.specs.Changes.{refused_by, setpoint_refusal, put, unless, written, stored_pattern, record_after}
use Rattle.rack.specs.Edits.{Edit, polling_address, preambles, assembly_number, changed, key, sample, text, setpoint}
use Rattle.line.specs.Codes as codes
use Rattle.line.specs.Codes.{code_number, known?, percent?, codes_in_turn, first_given, own_code, success?}
use Rattle.line.specs.Commands.{counted?}
use Rattle.line.specs.Edits.{edits_of, after_edits}
use Rattle.line.specs.declared.codes.ResponseCode.{ResponseCode}
use Rattle.line.specs.declared.codes.ResponseCode.TheVariants.{Success, InvalidSelection, TooLarge, TooSmall, ByteCount, WriteProtected, AccessRestricted, NotImplemented}
use Rattle.line.specs.declared.commands.Command.{Command}
use Rattle.line.specs.declared.commands.Command.TheVariants.{WritePollingAddress, WriteSetpoint}
use Rattle.runs.specs.Channel.{nameplate, Granted, granted_in, pattern_in, after_command}

-- what holds of both ways of a choice
pub either_way : {X : Type 0} (P : X → Type 0) (b : Bool) (x y : X) → P x → P y → P (cond b x y)
either_way P true x y p q = p
either_way P false x y p q = q

-- what holds of the record that a write puts and of the old one, holds of the one after it
pub after_write : (P : Record → Type 0) (e : Edit) (r : Record) → P (put e r) → P r → P (record_after (written e r) r)
after_write P e r p q = go (refused_by e r.fields)
  where
    go : (o : Option ℕ) → P (record_after (unless o (put e r)) r)
    go None = p
    go (Some n) = q

-- no write moves a nameplate
put_nameplate : (e : Edit) (r : Record) → nameplate (put e r) ≡ nameplate r
put_nameplate (polling_address a) r = refl
put_nameplate (preambles n) r = refl
put_nameplate (assembly_number n) r = refl
put_nameplate (changed on) r = refl
put_nameplate (key on) r = refl
put_nameplate (sample reading) r = refl
put_nameplate (text place bytes) r = refl
put_nameplate (setpoint p) r = refl

pub written_nameplate : (e : Edit) (r : Record) → nameplate (record_after (written e r) r) ≡ nameplate r
written_nameplate e r = after_write (λ s. nameplate s ≡ nameplate r) e r (put_nameplate e r) refl

pub edits_nameplate : (es : List Edit) (r : Record) → nameplate (after_edits es r) ≡ nameplate r
edits_nameplate [] r = refl
edits_nameplate (e ∷ es) r = edits_nameplate es (put e r) ∙ put_nameplate e r

-- what an accepted command grants
pub edits_granted : (command : Command) (bytes : List ℕ) (r : Record) → granted_in (after_edits (edits_of command bytes) r) ≡ after_command bytes (granted_in r) command
edits_granted WriteSetpoint bytes r = refl
edits_granted WritePollingAddress bytes r = refl
edits_granted command bytes r = refl

-- a command that is no setpoint's leaves the setpoint
pub setpoint_kept : (command : Command) (bytes : List ℕ) (g : Granted) → codes.setpoint? command ≡ false → (after_command bytes g command).setpoint ≡ g.setpoint
setpoint_kept WriteSetpoint bytes g e = absurd (true≢false e)
setpoint_kept WritePollingAddress bytes g e = refl
setpoint_kept command bytes g e = refl

-- only one command is a setpoint's
pub known_setpoint : (o : Option Command) → known? codes.setpoint? o ≡ true → o ≡ Some WriteSetpoint
known_setpoint None e = absurd (true≢false (sym e))
known_setpoint (Some WriteSetpoint) e = refl
known_setpoint (Some command) e = absurd (true≢false (sym e))

-- the tests of the codes of a setpoint command, by what they ask
abbrev pub Tested : Bool → Bool → Bool → Result ℕ SetpointRefusal → ResponseCode → Bool
Tested counted open? percent a NotImplemented = false
Tested counted open? percent a ByteCount = not counted
Tested counted open? percent a WriteProtected = not open?
Tested counted open? percent a InvalidSelection = not percent || option_map_or (λ n. eqb n 2) (setpoint_refusal a) false
Tested counted open? percent a TooSmall = option_map_or (λ n. eqb n 4) (setpoint_refusal a) false
Tested counted open? percent a TooLarge = option_map_or (λ n. eqb n 3) (setpoint_refusal a) false
Tested counted open? percent a AccessRestricted = false
Tested counted open? percent a Success = true

tested : (counted open? percent : Bool) (a : Result ℕ SetpointRefusal) → success? (first_given (Tested counted open? percent a)) ≡ (counted && (open? && (percent && is_ok a)))
tested false open? percent a = refl
tested true false percent a = refl
tested true true false a = refl
tested true true true (Ok load) = refl
tested true true true (Err NotANumber) = refl
tested true true true (Err AboveCeiling) = refl
tested true true true (Err BelowZero) = refl

-- a setpoint command is accepted just where it has its count, the key is open, percent stands in front and the ceiling admits it
pub own_setpoint : (bytes : List ℕ) (f : Fields)
    → success? (own_code (Some WriteSetpoint) bytes f) ≡ (counted? WriteSetpoint bytes && (f.key_open && (percent? bytes && is_ok (admitted_under f.ceiling (value_of (pattern_in bytes))))))
own_setpoint bytes f = tested (counted? WriteSetpoint bytes) f.key_open (percent? bytes) (admitted_under f.ceiling (value_of (pattern_in bytes)))

-- a code whose test does not hold is not given: no channel gives code 16 by itself
given_but_16 : (test : ResponseCode → Bool) → test AccessRestricted ≡ false → eqb (code_number (first_given test)) 16 ≡ false
given_but_16 test e =
    let Q : Option ResponseCode → Type 0 = λ o. eqb (code_number (unwrap_or o Success)) 16 ≡ false in
    let last : Q (find test (AccessRestricted ∷ Success ∷ [])) = rw e (either_way Q (test Success) _ _ refl refl) in
    either_way Q (test NotImplemented) _ _ refl
    (either_way Q (test ByteCount) _ _ refl
    (either_way Q (test WriteProtected) _ _ refl
    (either_way Q (test InvalidSelection) _ _ refl
    (either_way Q (test TooSmall) _ _ refl
    (either_way Q (test TooLarge) _ _ refl last)))))

pub own_code_lem : (o : Option Command) (bytes : List ℕ) (f : Fields) → eqb (code_number (own_code o bytes f)) 16 ≡ false
own_code_lem o bytes f = given_but_16 (codes.own_given? o bytes f) refl

-- minus zero weighs as zero does
pub load_stored : (p : ℕ) → load_of (value_of (stored_pattern p)) ≡ load_of (value_of p)
unfolding lib.Ieee.of_bits
load_stored p = elim (cases_Bool (eqb p minus_zero)) [
  | inl e ↦ let c = eqb-true p minus_zero e in rw c refl
  | inr e ↦ rw e refl
]
