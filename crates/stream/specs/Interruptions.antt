-- How an interruption prints, and which can come about.
use Rattle.std.specs.Prelude.{ℕ, ◌-◌, ◌^◌, ◌≤◌, List, [], ◌≢◌, codes, Some, None, Option, ⊤}
use Rattle.stream.specs.declared.interruption.Interruption.{Interruption}
use Rattle.stream.specs.declared.interruption.Interruption.TheVariants.{Memory, Stream, Endless}

-- where that is known: one of memory, reading or writing prints as its error does
abbrev pub words_of : Interruption → Option (List ℕ)
words_of Endless = Some (codes "the recording has more events than can be counted")
words_of (Memory e) = None
words_of (Stream kind) = None

-- as many events as can be counted, and one more than that is endless
abbrev pub countless : ℕ
countless = 2 ^ 64 - 1

-- What can interrupt a recording of at most so many events: their number only where they may be 2 ^ 64 - 1 or more,
-- so that of 0 events it never does.
abbrev pub CanInterrupt : ℕ → Interruption → Type 0
CanInterrupt most Endless = countless ≤ most
CanInterrupt most (Memory e) = ⊤
CanInterrupt most (Stream kind) = ⊤

-- the input could not be read, or the output not written
abbrev pub OfStream : Interruption → Type 0
OfStream Endless = ⊥
OfStream (Memory e) = ⊥
OfStream (Stream kind) = ⊤

-- the end of a recording with this rest: only the line of a rest can want memory
abbrev pub Finishes : List ℕ → Interruption → Type 0
Finishes rest Endless = ⊥
Finishes rest (Memory e) = rest ≢ []
Finishes rest (Stream kind) = ⊤
