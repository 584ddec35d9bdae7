-- What a master takes from a reply.
use Rattle.std.specs.Prelude.{ℕ, if◌then◌else◌, List, [], ◌∷◌, length, drop, Some, None, Option, ◌==◌, nat_le, slice_index}
use Rattle.std.specs.Option.{option_and_then}
use Rattle.std.specs.Result.{result_ok}
use Rattle.frame.specs.Transmissions.{read_reply}
use Rattle.record.specs.Bytes.{number32}

-- what a reply carries begins with this many status bytes
abbrev pub status_bytes : ℕ
status_bytes = 2

abbrev pub behind_status : List ℕ → Option (List ℕ)
behind_status content = if nat_le status_bytes (length content) then Some (drop status_bytes content) else None

-- The data of a reply, where the bytes are a sound transmission of one.
abbrev pub data_of : List ℕ → Option (List ℕ)
data_of bytes = option_and_then (λ q. behind_status q.«data») (result_ok (read_reply bytes))

-- how many data bytes tell a unique identifier
abbrev pub identifier_length : ℕ
identifier_length = 12

-- the first byte of a long address from the primary master: bit 7, and the manufacturer
abbrev pub primary_to_manufacturer : ℕ
primary_to_manufacturer = 0x8a

-- The long address, from the primary master, of the channel with this unique identifier: device type and identification
-- number behind that byte.
abbrev pub long_address : List ℕ → Option (List ℕ)
long_address bytes =
    let at : ℕ → ℕ = slice_index bytes in
    if length bytes == identifier_length
    then Some (primary_to_manufacturer ∷ at 2 ∷ at 9 ∷ at 10 ∷ at 11 ∷ [])
    else None

-- how many data bytes tell a flow: a unit code and its pattern
abbrev pub flow_length : ℕ
flow_length = 5

-- the pattern of a flow, behind its unit code
abbrev pub flow_of : List ℕ → Option ℕ
flow_of bytes = if length bytes == flow_length then Some (number32 bytes 1) else None

-- what a reply tells, if the bytes are one
abbrev pub address_told : List ℕ → Option (List ℕ)
address_told bytes = option_and_then long_address (data_of bytes)

abbrev pub flow_told : List ℕ → Option ℕ
flow_told bytes = option_and_then flow_of (data_of bytes)
