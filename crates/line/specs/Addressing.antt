-- Whom a request means.
use Rattle.std.specs.Prelude.{ℕ, ◌/◌, ◌%◌, Bool, true, false, if◌then◌else◌, not, ◌&&◌, ◌||◌, List, length, ◌==◌, nat_eq, slice_index}
use Rattle.std.specs.Cmp.Lexicographic.{pointwise}
use Rattle.frame.specs.Frames.{Parts, short_width, long_width}
use Rattle.record.specs.Bytes.{number24}
use Rattle.record.specs.TextParts.{tag, part_of}
use Rattle.record.specs.declared.Fields.{Fields}
use Rattle.record.specs.declared.Record.{Record}
use Rattle.line.specs.Commands.{number_of}
use Rattle.line.specs.Requests.{Asked, tag_question, text_write, number_write, bare, asked_by}
use Rattle.line.specs.declared.commands.Command.TheVariants.{ReadUniqueIdentifierByTag}

-- the manufacturer in a long address
abbrev pub manufacturer : ℕ
manufacturer = 10

-- a short address, one byte: bits 6 to 4 are 0, and the low four bits are the polling address
abbrev pub short_means? : ℕ → ℕ → Bool
short_means? first polling = first / 16 % 8 == 0 && first % 16 == polling

-- a long address, five bytes: bit 6 is 0 and the low six bits are the manufacturer; then device type
-- and identification number
abbrev pub long_means? : List ℕ → ℕ → ℕ → Bool
long_means? address device identification =
    (slice_index address 0 % 128 == manufacturer)
    && slice_index address 1 == device && number24 address 2 == identification

-- a long address that means every channel: 0 but for bit 7
abbrev pub every_channel? : List ℕ → Bool
every_channel? address =
    slice_index address 0 % 128 == 0 && slice_index address 1 == 0 && number24 address 2 == 0

-- whether an address means a channel with this polling address, device type and identification
-- number
abbrev pub address_means? : List ℕ → ℕ → ℕ → ℕ → Bool
address_means? address polling device identification =
    if length address == short_width then short_means? (slice_index address 0) polling
    else if length address == long_width
    then long_means? address device identification || every_channel? address
    else false

abbrev pub addresses? : List ℕ → Fields → Bool
addresses? address fields =
    address_means? address fields.polling_address fields.device_type fields.identification

abbrev pub equal? : List ℕ → List ℕ → Bool
equal? = pointwise nat_eq

-- A tag question means, of the addressed channels, only those with its tag; its command with another
-- count is bare and means none.
abbrev pub tag_means? : Asked → List ℕ → Bool
tag_means? (tag_question bytes) own = equal? bytes own
tag_means? (text_write command bytes) own = true
tag_means? (number_write command bytes) own = true
tag_means? (bare number) own = not (number == number_of ReadUniqueIdentifierByTag)

-- a channel's tag
abbrev pub tag_of : Record → List ℕ
tag_of r = part_of tag r.text

-- whether a request's frame, as received, means a channel
abbrev pub means? : Parts → Record → Bool
means? f r =
    addresses? f.address r.fields && tag_means? (asked_by f.command f.«data») (tag_of r)
