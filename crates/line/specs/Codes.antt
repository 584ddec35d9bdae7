-- The response code of a sound request to a channel.
use Rattle.std.specs.Prelude.{◌≡◌, ℕ, ◌<◌, Bool, true, false, if◌then◌else◌, not, ◌&&◌, ◌||◌, List, [], ◌∷◌, find, is_none, Ok, Err, Option, Result, ◌==◌, slice_index}
use Rattle.std.specs.Option.{option_map_or, unwrap_or}
use Rattle.setpoint.specs.Load.{load_of}
use Rattle.setpoint.specs.declared.SetpointRefusal.{SetpointRefusal}
use Rattle.setpoint.specs.declared.SetpointRefusal.TheVariants.{NotANumber, AboveCeiling, BelowZero}
use Rattle.setpoint.specs.Share.{share_of}
use Rattle.setpoint.specs.Value.{value_of}
use Rattle.record.specs.Bytes.{number32}
use Rattle.record.specs.declared.Fields.{Fields}
use Rattle.line.specs.Allotments.{Allotment, allots?}
use Rattle.line.specs.Commands.{writes?, counted?}
use Rattle.line.specs.Edits.{edits_of, refusal_of}
use Rattle.line.specs.declared.codes.ResponseCode.{ResponseCode}
use Rattle.line.specs.declared.codes.ResponseCode.TheVariants.{Success, InvalidSelection, TooLarge, TooSmall, ByteCount, WriteProtected, AccessRestricted, NotImplemented}
use Rattle.line.specs.declared.commands.Command.{Command}
use Rattle.line.specs.declared.commands.Command.TheVariants.{WriteSetpoint}

abbrev pub code_number : ResponseCode → ℕ
code_number Success = 0
code_number InvalidSelection = 2
code_number TooLarge = 3
code_number TooSmall = 4
code_number ByteCount = 5
code_number WriteProtected = 7
code_number AccessRestricted = 16
code_number NotImplemented = 64

-- the unit code of percent, in which a setpoint is written
abbrev pub percent_unit : ℕ
percent_unit = 0x39

abbrev pub percent? : List ℕ → Bool
percent? bytes = slice_index bytes 0 == percent_unit

abbrev pub setpoint? : Command → Bool
setpoint? WriteSetpoint = true
setpoint? command = false

-- a setpoint of another unit
abbrev pub wrong_unit? : List ℕ → Command → Bool
wrong_unit? bytes command = setpoint? command && not (percent? bytes)

-- whether a test holds of the command, where there is one
abbrev pub known? : (Command → Bool) → Option Command → Bool
known? test command = option_map_or test command false

-- whether the first edit of a command is refused by this number
abbrev pub refuses? : ℕ → List ℕ → Fields → Command → Bool
refuses? number bytes fields command =
    option_map_or (λ n. n == number) (refusal_of (edits_of command bytes) fields) false

-- the share that a setpoint command asks for, of a channel with this full scale
abbrev pub asked_share : List ℕ → ℕ → ℕ
asked_share bytes scale = share_of (load_of (value_of (number32 bytes 1))) scale

-- Whether a code is to be given, what is tried before it aside. The supply is not asked here: by these
-- the channel judges alone.
abbrev pub own_given? : Option Command → List ℕ → Fields → ResponseCode → Bool
own_given? command bytes fields NotImplemented = is_none command
own_given? command bytes fields ByteCount = known? (λ c. not (counted? c bytes)) command
own_given? command bytes fields WriteProtected = known? writes? command && not fields.key_open
own_given? command bytes fields InvalidSelection =
    known? (λ c. wrong_unit? bytes c || refuses? (code_number InvalidSelection) bytes fields c)
    command
own_given? command bytes fields TooSmall =
    known? (refuses? (code_number TooSmall) bytes fields) command
own_given? command bytes fields TooLarge =
    known? (refuses? (code_number TooLarge) bytes fields) command
own_given? command bytes fields AccessRestricted = false
own_given? command bytes fields Success = true

-- the same with the one code that the supply decides: the share that a setpoint asks for does not fit
-- beside the others'
abbrev pub given? : Option Command → List ℕ → Fields → Allotment → ResponseCode → Bool
given? command bytes fields a AccessRestricted =
    known? setpoint? command && not (allots? a (asked_share bytes fields.full_scale))
given? command bytes fields a code = own_given? command bytes fields code

-- the codes in the order in which they are tried
abbrev pub codes_in_turn : List ResponseCode
codes_in_turn =
    NotImplemented ∷ ByteCount ∷ WriteProtected ∷ InvalidSelection ∷ TooSmall ∷ TooLarge
    ∷ AccessRestricted ∷ Success ∷ []

-- how many codes are tried before one
abbrev pub turn_of : ResponseCode → ℕ
turn_of NotImplemented = 0
turn_of ByteCount = 1
turn_of WriteProtected = 2
turn_of InvalidSelection = 3
turn_of TooSmall = 4
turn_of TooLarge = 5
turn_of AccessRestricted = 6
turn_of Success = 7

-- the first code whose test holds
abbrev pub first_given : (ResponseCode → Bool) → ResponseCode
first_given test = unwrap_or (find test codes_in_turn) Success

-- this code is to be given, and none that is tried before it
pub record FirstGiven (test : ResponseCode → Bool) (code : ResponseCode) : Type 0 where
  pub here : test code ≡ true
  pub before : (other : ResponseCode) → turn_of other < turn_of code → test other ≡ false

-- the code of a command, if it is one, with its data
abbrev pub code_of : Option Command → List ℕ → Fields → Allotment → ResponseCode
code_of command bytes fields a = first_given (given? command bytes fields a)

-- the code that the channel gives by itself: what the supply may object to is not judged
abbrev pub own_code : Option Command → List ℕ → Fields → ResponseCode
own_code command bytes fields = first_given (own_given? command bytes fields)

abbrev pub success? : ResponseCode → Bool
success? code = code_number code == 0

-- a setpoint command past every refusal of the channel's own
abbrev pub asks? : Option Command → List ℕ → Fields → Bool
asks? command bytes fields = known? setpoint? command && success? (own_code command bytes fields)

-- the code of a setpoint of a channel with this full scale, by what its ceiling makes of the setpoint:
-- the load is weighed
abbrev pub weighed : Allotment → ℕ → Result ℕ SetpointRefusal → ResponseCode
weighed a scale (Ok load) = if allots? a (share_of load scale) then Success else AccessRestricted
weighed a scale (Err NotANumber) = InvalidSelection
weighed a scale (Err AboveCeiling) = TooLarge
weighed a scale (Err BelowZero) = TooSmall
