-- The bytes that requests and replies are sent as.
use Rattle.std.specs.Prelude.{◌≡◌, ℕ, Bool, true, if◌then◌else◌, ◌&&◌, ◌||◌, List, [], ◌∷◌, ◌++◌, length, replicate, Ok, ◌==◌, nat_le}
use Rattle.frame.specs.Check.{check_of}
use Rattle.frame.specs.Frames.{short_request, long_request, short_reply, long_reply, short_width, long_width, most_data}
use Rattle.frame.specs.Transmissions.{preamble, fewest_preambles, most_preambles, Request, Transmits, read_request}

-- the request that these four make
abbrev pub asked : ℕ → List ℕ → ℕ → List ℕ → Request
asked preambles address command content =
    record { preambles = preambles; address = address; command = command; «data» = content }

-- an address has one byte or five
abbrev pub address? : List ℕ → Bool
address? bytes = length bytes == short_width || length bytes == long_width

-- in form to be sent: 2 to 20 preambles, an address of 1 or 5 bytes, at most 255 data bytes
abbrev pub request? : Request → Bool
request? q =
    nat_le fewest_preambles q.preambles && nat_le q.preambles most_preambles
    && address? q.address && nat_le (length q.«data») most_data

-- the start byte that tells an address of w bytes, of the two of a kind of frame
abbrev pub start_for : ℕ → ℕ → ℕ → ℕ
start_for short long w = if w == short_width then short else long

-- bytes with their check behind them
abbrev pub checked : List ℕ → List ℕ
checked bytes = bytes ++ check_of bytes ∷ []

abbrev pub frame_bytes : ℕ → List ℕ → ℕ → List ℕ → List ℕ
frame_bytes start address command content =
    checked (start ∷ address ++ command ∷ length content ∷ content)

-- the transmission of these parts, by the two start bytes of its kind of frame
abbrev pub sent : ℕ → ℕ → Request → List ℕ
sent short long q =
    replicate q.preambles preamble
    ++ frame_bytes (start_for short long (length q.address)) q.address q.command q.«data»

abbrev pub transmission : Request → List ℕ
transmission = sent short_request long_request

abbrev pub reply_transmission : Request → List ℕ
reply_transmission = sent short_reply long_reply

-- the request is in form and is sent as just these bytes
pub record MadeAgain (bytes : List ℕ) (q : Request) : Type 0 where
  pub formed : request? q ≡ true
  pub same : transmission q ≡ bytes

-- these bytes are a sound transmission of the request, and read back to it
pub record ReadsBack (q : Request) (bytes : List ℕ) : Type 0 where
  pub sound : Transmits q bytes
  pub same : read_request bytes ≡ Ok q
