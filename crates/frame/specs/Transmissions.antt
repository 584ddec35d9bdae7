-- A transmission: preambles and then a frame.
use Rattle.std.specs.Prelude.{◌≡◌, ℕ, ◌≤◌, if◌then◌else◌, ◌&&◌, List, ◌++◌, drop, replicate, Ok, Err, Result, ◌==◌, nat_le}
use Rattle.std.specs.List.{prefix_len}
use Rattle.refusals.specs.Refusals.{number_of}
use Rattle.refusals.specs.declared.Refusal.TheVariants.{OutOfForm}
use Rattle.frame.specs.Check.{check_of}
use Rattle.frame.specs.Frames.{Parts, RequestFrame, ReplyFrame, start_frame, short_request, long_request, short_reply, long_reply}

-- every preamble is this byte, and no start byte is
abbrev pub preamble : ℕ
preamble = 0xff

-- the preambles without which no transmission is heard, and the most that are sent
abbrev pub fewest_preambles : ℕ
fewest_preambles = 2

abbrev pub most_preambles : ℕ
most_preambles = 20

-- how many preambles stand before the start: the start is the first byte that is none
abbrev pub preambles_of : List ℕ → ℕ
preambles_of = prefix_len (λ b. b == preamble)

-- the bytes from the start on
abbrev pub span_of : List ℕ → List ℕ
span_of bytes = drop (preambles_of bytes) bytes

-- the four parts of a transmission; its check follows from them
pub record Request : Type 0 where
  pub preambles : ℕ
  pub address : List ℕ
  pub command : ℕ
  pub «data» : List ℕ

-- what the frame of a transmission with these parts carries
abbrev pub parts_with : Request → ℕ → Parts
parts_with q check = record { address = q.address; command = q.command; «data» = q.«data»; check = check }

-- The bytes are a sound transmission of these parts: as many preambles, at least two, and then a frame of this kind
-- whose exclusive or from start to check is 0.
pub record Sent (Kind : List ℕ → Parts → Type 0) (q : Request) (bytes : List ℕ) : Type 0 where
  pub span : List ℕ
  pub check : ℕ
  pub led : fewest_preambles ≤ q.preambles
  pub spelled : bytes ≡ replicate q.preambles preamble ++ span
  pub framed : Kind span (parts_with q check)
  pub sound : check_of span ≡ 0

-- THE TRANSMISSION RELATION: the bytes are a sound transmission of a request with these parts.
abbrev pub Transmits : Request → List ℕ → Type 0
Transmits = Sent RequestFrame

-- THE REPLY RELATION: the bytes are a sound transmission of a reply with these parts.
abbrev pub Replies : Request → List ℕ → Type 0
Replies = Sent ReplyFrame

-- a frame behind n preambles, seen as the parts of its transmission
abbrev pub request_of : ℕ → Result Parts ℕ → Result Request ℕ
request_of n (Ok f) = Ok (record { preambles = n; address = f.address; command = f.command; «data» = f.«data» })
request_of n (Err e) = Err e

-- a span behind n preambles, by the two start bytes of its kind of frame
abbrev pub sent_span : ℕ → ℕ → ℕ → List ℕ → Result Request ℕ
sent_span short long n span =
    if nat_le fewest_preambles n && check_of span == 0
    then request_of n (start_frame short long span)
    else Err (number_of OutOfForm)

-- a transmission read from bytes, 110 where they are no sound one
abbrev pub read_sent : ℕ → ℕ → List ℕ → Result Request ℕ
read_sent short long bytes = sent_span short long (preambles_of bytes) (span_of bytes)

abbrev pub read_request : List ℕ → Result Request ℕ
read_request = read_sent short_request long_request

abbrev pub read_reply : List ℕ → Result Request ℕ
read_reply = read_sent short_reply long_reply
