-- A frame: the bytes from the start byte to the check byte.
use Rattle.std.specs.Prelude.{◌≡◌, ℕ, ◌+◌, ◌&&◌, ◌⊎◌, if◌then◌else◌, List, [], ◌∷◌, ◌++◌, length, take, drop, Ok, Err, Result, ◌==◌, nat_le, slice_index}
use Rattle.refusals.specs.Refusals.{number_of}
use Rattle.refusals.specs.declared.Refusal.TheVariants.{OutOfForm}

-- the start bytes
abbrev pub short_request : ℕ
short_request = 2

abbrev pub long_request : ℕ
long_request = 130

abbrev pub short_reply : ℕ
short_reply = 6

abbrev pub long_reply : ℕ
long_reply = 134

-- how many bytes an address has
abbrev pub short_width : ℕ
short_width = 1

abbrev pub long_width : ℕ
long_width = 5

-- the most data bytes that a count can tell, and the longest frame: start, long address, command, count, data and check
abbrev pub most_data : ℕ
most_data = 255

abbrev pub longest_frame : ℕ
longest_frame = 264

-- what a frame carries; its start byte and its count follow from the kind of frame and from the data
pub record Parts : Type 0 where
  pub address : List ℕ
  pub command : ℕ
  pub «data» : List ℕ
  pub check : ℕ

-- THE FRAME RELATION, over the start byte and the address width w: the span is the start, an address of w bytes, the
-- command, the count, as many data bytes as the count says, the check, and nothing more.
pub record Framed (start w : ℕ) (span : List ℕ) (f : Parts) : Type 0 where
  pub wide : length f.address ≡ w
  pub spelled : span ≡ start ∷ f.address ++ f.command ∷ length f.«data» ∷ f.«data» ++ f.check ∷ []

-- a frame with a short or a long address, by the start byte that tells each
abbrev pub StartFrame : ℕ → ℕ → List ℕ → Parts → Type 0
StartFrame short long span f = Framed short short_width span f ⊎ Framed long long_width span f

abbrev pub RequestFrame : List ℕ → Parts → Type 0
RequestFrame = StartFrame short_request long_request

abbrev pub ReplyFrame : List ℕ → Parts → Type 0
ReplyFrame = StartFrame short_reply long_reply

-- the frame of an address and of what follows it: command, count, data and check; 110 unless its length is the
-- one that the count tells
abbrev pub frame_after : List ℕ → List ℕ → Result Parts ℕ
frame_after address rest =
    let count = slice_index rest 1 in
    if nat_le 3 (length rest) && length rest == 3 + count
    then Ok (record {
      address = address;
      command = slice_index rest 0;
      «data» = take count (drop 2 rest);
      check = slice_index rest (2 + count);
    })
    else Err (number_of OutOfForm)

-- a frame read with an address of w bytes
abbrev pub frame_at : ℕ → List ℕ → Result Parts ℕ
frame_at w span = frame_after (take w (drop 1 span)) (drop (w + 1) span)

-- a frame read by the two start bytes of its kind: the start byte tells the width
abbrev pub start_frame : ℕ → ℕ → List ℕ → Result Parts ℕ
start_frame short long span =
    if slice_index span 0 == short then frame_at short_width span
    else if slice_index span 0 == long then frame_at long_width span
    else Err (number_of OutOfForm)

abbrev pub request_frame : List ℕ → Result Parts ℕ
request_frame = start_frame short_request long_request

abbrev pub reply_frame : List ℕ → Result Parts ℕ
reply_frame = start_frame short_reply long_reply
