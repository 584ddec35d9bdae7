-- The first code whose test holds.
use Rattle.std.proofs.Common.{◌≡◌, ℕ, ◌≤◌, Bool, true, false, cond, not, ◌&&◌, List, Some, Option, refl, inl, inr, arith}
use Rattle.std.specs.Option.{unwrap_or}
use Rattle.std.proofs.lemmas.Bool.{cases_Bool}
use Rattle.std.proofs.lemmas.Bool.Decides.{nat_tests}
use Rattle.record.specs.declared.Fields.{Fields}
use Rattle.line.specs.Allotments.{Allotment, allots?}
use Rattle.line.specs.Codes.{turn_of, first_given, FirstGiven, given?, code_of, own_given?, own_code, success?, setpoint?, known?, asks?, asked_share}
use Rattle.line.specs.declared.codes.ResponseCode.{ResponseCode}
use Rattle.line.specs.declared.codes.ResponseCode.TheVariants.{Success, InvalidSelection, TooLarge, TooSmall, ByteCount, WriteProtected, AccessRestricted, NotImplemented}
use Rattle.line.specs.declared.commands.Command.{Command}

module _ (test : ResponseCode → Bool) where
  -- the first is tried no later than any code whose test holds
  at_most : (other : ResponseCode) → test other ≡ true → turn_of (first_given test) ≤ turn_of other
  at_most NotImplemented h = grind (arith, nat_tests)
  at_most ByteCount h = grind (arith, nat_tests)
  at_most WriteProtected h = grind (arith, nat_tests)
  at_most InvalidSelection h = grind (arith, nat_tests)
  at_most TooSmall h = grind (arith, nat_tests)
  at_most TooLarge h = grind (arith, nat_tests)
  at_most AccessRestricted h = grind (arith, nat_tests)
  at_most Success h = grind (arith, nat_tests)

  holds : test Success ≡ true → test (first_given test) ≡ true
  holds h = grind (arith, nat_tests)

  pub first : test Success ≡ true → FirstGiven test (first_given test)
  first h = record {
    here = holds h;
    before = λ other l. elim (cases_Bool (test other)) [ inl t ↦ (let m = at_most other t in absurd (omega arith)) | inr f ↦ f ];
  }

pub code_first : (command : Option Command) (bytes : List ℕ) (fields : Fields) (a : Allotment) → FirstGiven (given? command bytes fields a) (code_of command bytes fields a)
code_first command bytes fields a = first (given? command bytes fields a) refl

-- the first code of these seven tests, and Success where none holds
abbrev chain : Bool → Bool → Bool → Bool → Bool → Bool → Bool → ResponseCode
chain a b c d e f g =
    unwrap_or (cond a (Some NotImplemented) (cond b (Some ByteCount) (cond c (Some WriteProtected) (cond d (Some InvalidSelection)
    (cond e (Some TooSmall) (cond f (Some TooLarge) (cond g (Some AccessRestricted) (Some Success)))))))) Success

split : (k a b c d e f n : Bool) → chain a b c d e f (k && n) ≡ cond ((k && success? (chain a b c d e f false)) && n) AccessRestricted (chain a b c d e f false)
split false a b c d e f n = refl
split true true b c d e f n = refl
split true false true c d e f n = refl
split true false false true d e f n = refl
split true false false false true e f n = refl
split true false false false false true f n = refl
split true false false false false false true n = refl
split true false false false false false false true = refl
split true false false false false false false false = refl

-- the code is the channel's own, unless the share that a setpoint asks for does not fit
pub code_by_own : (command : Option Command) (bytes : List ℕ) (fields : Fields) (a : Allotment)
    → code_of command bytes fields a ≡ cond (asks? command bytes fields && not (allots? a (asked_share bytes fields.full_scale))) AccessRestricted (own_code command bytes fields)
code_by_own command bytes fields a =
    let t = own_given? command bytes fields in
    split (known? setpoint? command) (t NotImplemented) (t ByteCount) (t WriteProtected) (t InvalidSelection) (t TooSmall) (t TooLarge)
    (not (allots? a (asked_share bytes fields.full_scale)))
