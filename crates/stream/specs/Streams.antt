-- What a stream of events has read and written, where the bytes of its reader and of its writer are known.
use Rattle.std.specs.Prelude.{◌≡◌, ℕ, ◌<◌, ◌≤◌, Bool, true, false, List, [], ◌∷◌, ◌++◌, length, drop, take, Some, None, Ok, Option, Result}
use Rattle.stream.specs.declared.events.EventStream.{EventStream}
use Rattle.stream.specs.declared.interruption.Interruption.{Interruption}
use Rattle.recording.specs.Lines.{with_line, rest_line}
use Rattle.recording.specs.Recordings.{event_length, events_of, rest_of}

-- the bytes of the block that were not taken yet
abbrev pub unread_of : {R W : Type 0} → EventStream R W → List ℕ
unread_of s = drop s.unread.start (take s.unread.end s.block)

-- a whole event, of 12 bytes, came and was not taken yet
abbrev pub WholeEvent : {R W : Type 0} → EventStream R W → Type 0
WholeEvent s = event_length ≤ length (unread_of s)

-- of the next event at most a part came
abbrev pub NoWholeEvent : {R W : Type 0} → EventStream R W → Type 0
NoWholeEvent s = length (unread_of s) < event_length

-- What of a stream its owner can tell: its reader and its writer, the bytes that came and were not taken yet, and the
-- lines that wait to be written.
pub record View (R W : Type 0) : Type 0 where
  pub input : R
  pub output : W
  pub unread : List ℕ
  pub lines : List ℕ

abbrev pub view_of : {R W : Type 0} → EventStream R W → View R W
view_of s = record {
  input = s.input;
  output = s.output;
  unread = unread_of s;
  lines = s.lines.items;
}

-- a stream that was just begun
abbrev pub begun : {R W : Type 0} → R → W → View R W
begun input output = record { input = input; output = output; unread = []; lines = [] }

-- a line more waits, if there was memory for it
abbrev pub with_told : {R W : Type 0} → Bool → List ℕ → View R W → View R W
with_told kept? line v = record v { lines = with_line kept? line v.lines }

-- the line of what is left of an event waits too, if something is left
abbrev pub with_rest : {R W : Type 0} → View R W → View R W
with_rest v = with_told true (rest_line v.unread) v

-- an event was taken, of those that came
abbrev pub after_event : {R W : Type 0} → View R W → View R W
after_event v = record v { unread = drop event_length v.unread }

-- Where a whole event came, it is taken, and nothing is read or written for it.
pub record TakesWhole {R W : Type 0} (v v' : View R W)
    (result : Result (Option (List ℕ)) Interruption) : Type 0 where
  pub event : result ≡ Ok (Some (take event_length v.unread))
  pub after : v' ≡ after_event v

module _ {R W : Type 0} (contents : W → Option (List ℕ)) where
  -- a writer holds all that was written, and the lines that waited
  abbrev pub OutputHolds : View R W → W → Type 0
  OutputHolds v output = (written : List ℕ) → contents v.output ≡ Some written
      → contents output ≡ Some (written ++ v.lines)

  -- the lines that waited were written
  pub record WrittenOut (v v' : View R W) : Type 0 where
    pub holds : OutputHolds v v'.output
    pub none_wait : v'.lines ≡ []

  -- Nothing is read before the lines that waited are written.
  pub data WrittenFirst (v v' : View R W) : Type 0 where
    unread : v'.input ≡ v.input → v'.lines ≡ v.lines → WrittenFirst v v'
    written : WrittenOut v v' → WrittenFirst v v'

-- No byte is lost: those that came and were not taken, and then those that the reader has left, are what they were.
abbrev pub NoneLost : {R W : Type 0} → (R → Option (List ℕ)) → View R W → View R W → Type 0
NoneLost remaining v v' = (left : List ℕ) → remaining v.input ≡ Some left
    → (left' : List ℕ) × (remaining v'.input ≡ Some left') × (v'.unread ++ left' ≡ v.unread ++ left)

module _ {R W : Type 0} (remaining : R → Option (List ℕ)) (contents : W → Option (List ℕ)) where
  -- These events are still to come, then this rest of fewer than 12 bytes; and these bytes were written, or wait to be.
  pub record Streams (v : View R W) (events : List (List ℕ)) (rest out : List ℕ) : Type 0 where
    pub left : List ℕ
    pub has_left : remaining v.input ≡ Some left
    pub events_are : events ≡ events_of (v.unread ++ left)
    pub rest_is : rest ≡ rest_of (v.unread ++ left)
    pub written : List ℕ
    pub has_written : contents v.output ≡ Some written
    pub out_is : out ≡ written ++ v.lines

  -- whatever is to come of a stream and was printed by it, this holds
  abbrev pub OfView : View R W → (List (List ℕ) → List ℕ → List ℕ → Type 0) → Type 0
  OfView v holds = (events : List (List ℕ)) (rest out : List ℕ)
      → Streams v events rest out → holds events rest out

  -- no event is to come any more: the rest is what was not taken
  pub record AtEnd (v : View R W) (events : List (List ℕ)) (rest : List ℕ) : Type 0 where
    pub none : events ≡ []
    pub left_over : rest ≡ v.unread

  -- an event was taken, or there is none
  pub data Next (v : View R W) (events : List (List ℕ)) (rest out : List ℕ)
      : Option (List ℕ) → Type 0 where
    one : {event : List ℕ} {later : List (List ℕ)} → events ≡ event ∷ later
        → Streams v later rest out → Next v events rest out (Some event)
    end : Streams v events rest out → AtEnd v events rest → Next v events rest out None

  -- these events were taken, and those behind them are still to come
  abbrev pub TakesNext : View R W → View R W → List (List ℕ) → Type 0
  TakesNext v v' taken = OfView v (λ events rest out.
      (later : List (List ℕ)) × (events ≡ taken ++ later) × Streams v' later rest out)

  -- the next event of a stream, whatever is to come of it
  abbrev pub Gives : View R W → View R W → Option (List ℕ) → Type 0
  Gives v v' o = OfView v (λ events rest out. Next v' events rest out o)

  -- more was read: whatever is to come is to come yet, and nothing is where nothing came
  abbrev pub ReadOn : View R W → View R W → Bool → Type 0
  ReadOn v v' more? = OfView v (λ events rest out.
      Streams v' events rest out × (more? ≡ false → AtEnd v' events rest))
