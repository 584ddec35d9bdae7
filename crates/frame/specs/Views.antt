-- What the structs of the code say, with lists in the place of references and arrays.
use Rattle.std.specs.Prelude.{ℕ, ◌+◌, ◌≤◌, if◌then◌else◌, List, length, take, Ok, Err, IfOk, MatchResult, Result, ◌==◌}
use Rattle.refusals.specs.declared.Refusal.{Refusal}
use Rattle.refusals.specs.declared.Refusal.TheVariants.{OutOfForm}
use Rattle.refusals.specs.Refusals.{number_of, numbered}
use Rattle.refusals.specs.Filling.{Fills}
use Rattle.frame.specs.declared.Address.{Address}
use Rattle.frame.specs.declared.Address.TheVariants.{Short, Long}
use Rattle.frame.specs.declared.Frame.{Frame}
use Rattle.frame.specs.declared.RequestParts.{RequestParts}
use Rattle.frame.specs.declared.Transmission.{Transmission}
use Rattle.frame.specs.declared.StartBytes.{StartBytes}
use Rattle.frame.specs.declared.Master.{Master}
use Rattle.frame.specs.declared.Master.TheVariants.{Secondary, Primary}
use Rattle.frame.specs.Frames.{short_width, long_width, most_data, Parts, StartFrame, RequestFrame}
use Rattle.frame.specs.Making.{asked, frame_bytes, request?, sent, MadeAgain}
use Rattle.frame.specs.Transmissions.{most_preambles, Request, Sent, Transmits, Replies}

-- bit 7 of the first address byte
abbrev pub master_bit : Master → ℕ
master_bit Secondary = 0
master_bit Primary = 1

abbrev pub address_bytes : Address → List ℕ
address_bytes (Short bytes) = bytes
address_bytes (Long bytes) = bytes

-- how many bytes an address has
abbrev pub width_of : Address → ℕ
width_of (Short bytes) = short_width
width_of (Long bytes) = long_width

-- the address of bytes: a short one of one byte, a long one of five, else 110
abbrev pub address_of : List ℕ → Result Address ℕ
address_of bytes =
    if length bytes == short_width then Ok (Short bytes)
    else if length bytes == long_width then Ok (Long bytes)
    else Err (number_of OutOfForm)

abbrev pub frame_parts : Frame → Parts
frame_parts f =
    record { address = address_bytes f.address; command = f.command; «data» = f.«data».now; check = f.check }

abbrev pub request_parts : Transmission → Request
request_parts t = asked t.preambles (address_bytes t.address) t.command t.«data».now

-- the frame of these parts behind a start byte
abbrev pub frame_of : ℕ → Transmission → List ℕ
frame_of start t = frame_bytes start (address_bytes t.address) t.command t.«data».now

-- it fits a buffer of this length from a place on: start, command, count and check are four bytes
abbrev pub FrameFits : ℕ → Transmission → ℕ → Type 0
FrameFits at t room =
    (at + (length (address_bytes t.address) + length t.«data».now + 4) ≤ room) × (length t.«data».now ≤ most_data)

-- what a sender asks for, with any bytes as the address
abbrev pub requested : RequestParts → Request
requested q = asked q.preambles q.address.now q.command q.«data».now

-- an answer seen so, with the refusal's number in the place of the refusal
abbrev pub viewed : {X Y : Type 0} → (X → Y) → Result X Refusal → Result Y ℕ
viewed view (Ok x) = Ok (view x)
viewed view (Err e) = Err (number_of e)

-- Both directions: what was read, seen so, is in the relation, and where nothing was, nothing is.
abbrev pub Means : {X Y : Type 0} → (X → Y) → (Y → List ℕ → Type 0) → Result X Refusal → List ℕ → Type 0
Means {X} {Y} view Is result bytes =
    MatchResult result (λ x. Is (view x) bytes) (λ _. (y : Y) → Is y bytes → ⊥)

abbrev pub FrameMeans : Result Frame Refusal → List ℕ → Type 0
FrameMeans = Means frame_parts (λ parts span. RequestFrame span parts)

abbrev pub RequestMeans : Result Transmission Refusal → List ℕ → Type 0
RequestMeans = Means request_parts Transmits

abbrev pub ReplyMeans : Result Transmission Refusal → List ℕ → Type 0
ReplyMeans = Means request_parts Replies

-- what was read is sent as the same bytes, unless it has more preambles than are sent
abbrev pub SentAgain : Result Transmission Refusal → List ℕ → Type 0
SentAgain result bytes = IfOk result (λ t. t.preambles ≤ most_preambles → MadeAgain bytes (request_parts t))

-- a call that makes a transmission of these parts, as these bytes, in the front of a lent buffer
abbrev pub Makes : (Request → List ℕ) → Request → List ℕ → Result ℕ Refusal → List ℕ → Type 0
Makes bytes_of q before result after = Fills (request? q) (bytes_of q) before (numbered result) after

-- what a call made in the front of a buffer is so of these parts
abbrev pub Made : (Request → List ℕ → Type 0) → Request → Result ℕ Refusal → List ℕ → Type 0
Made Is q result after = IfOk result (λ n. Is q (take n after))

-- the bytes and the relation of a kind of frame
abbrev pub sent_as : StartBytes → Request → List ℕ
sent_as kind = sent kind.short kind.long

abbrev pub SentAs : StartBytes → Request → List ℕ → Type 0
SentAs kind = Sent (StartFrame kind.short kind.long)
