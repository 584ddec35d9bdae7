-- What a panel does, call after call.
use Rattle.std.specs.Prelude.{◌≡◌, ℕ, ◌-◌, ◌^◌, ◌≤◌, ◌⊎◌, List, [], ◌∷◌, ◌++◌, length, min, Some}
use Rattle.header.specs.Shares.{capacity_of}
use Rattle.rack.specs.declared.racks.Rack.{Ghosts}
use Rattle.receiver.specs.Holding.{Holds}
use Rattle.record.specs.declared.Record.{Record}
use Rattle.runs.specs.Channel.{flow_channel}
use Rattle.runs.specs.Histories.{pending_after}
use Rattle.runs.specs.SetUps.{SetUp, Promised}
use Rattle.runs.specs.Steps.{Run}
use Rattle.runs.specs.Traces.{Call, Result, Interaction, Trace, gap, ◌▸◌}
use Rattle.panel.specs.declared.driver.Driver as drivers
use Rattle.panel.specs.declared.state.Panel.{Panel}
use Rattle.panel.specs.Panels.{records_in, Does, Through, buffer_of}

-- the buffer after calls, one after another: the answers stand in its front
abbrev pub buffer_after : Trace flow_channel → List ℕ → List ℕ
buffer_after [] buffer = buffer
buffer_after (e ∷ trace) buffer = buffer_after trace (buffer_of e.result buffer)

-- the call that is made where one was named, with a buffer of n bytes: a gap has as much room as was asked for, or
-- all the buffer
abbrev pub within : ℕ → Call flow_channel → Call flow_channel
within n (gap room) = gap (min room n)
within n c = c

module _ {Dr : Type 0} (names : Dr → Dr → Call flow_channel → Type 0)
    (hears : Dr → Dr → Interaction flow_channel → Type 0) (n : ℕ) where
  -- What a driver did, from the one before to the one after: it named each call of a trace, and was told it with its
  -- result before it named another.
  pub data Drives (d : Dr) : Trace flow_channel → Dr → Type 0 where
    begins : Drives d [] d
    goes : {trace : Trace flow_channel} {d₁ d₂ d₃ : Dr} {c : Call flow_channel} {x : Result flow_channel}
        → Drives d trace d₁ → names d₁ d₂ c → hears d₂ d₃ (within n c ▸ x)
        → Drives d (trace ++ ((within n c ▸ x) ∷ [])) d₃

  -- it did so till it ended the run, or till the most calls that a run may have
  pub record Driven (ends : Dr → Dr → Type 0) (d : Dr) (trace : Trace flow_channel) (d' : Dr) : Type 0 where
    pub last : Dr
    pub drives : Drives d trace last
    pub ended : ends last d' ⊎ ((2 ^ 64 - 1 ≤ length trace) × (last ≡ d'))

module _ {X : Type 0} {G : Ghosts X} where
  -- THE PROMISE, WHOLE, of a panel that was set up under a supply when its rack meant the records before, and of all
  -- calls since, a trace: it is a run of the relation from those records to the ones that the rack means now and to
  -- the characters that are pending after the trace, which the receiver holds. For that run isolation, damage, header
  -- and records are promised.
  pub record Underway (supply : ℕ) (before : List Record) (trace : Trace flow_channel) (p : Panel X G) : Type 0 where
    pub set_up : SetUp supply before
    pub supply_is : p.supply ≡ Some supply
    pub ran : Run flow_channel (capacity_of supply) before [] trace (records_in p) (pending_after flow_channel [] trace)
    pub promised : Promised supply before trace (records_in p) (pending_after flow_channel [] trace)
    pub holds : Holds p.receiver (pending_after flow_channel [] trace)

  -- Whatever trace a panel is under way by since a set-up, after the calls of another it is under way by both.
  abbrev pub WentOn : Panel X G → Panel X G → Trace flow_channel → Type 0
  WentOn p p' trace = (supply : ℕ) (before : List Record) (earlier : Trace flow_channel)
      → Underway supply before earlier p → Underway supply before (earlier ++ trace) p'

  -- after one call, with that call and its result behind
  abbrev pub GoesOn : Panel X G → Panel X G → Call flow_channel → Result flow_channel → Type 0
  GoesOn p p' call result = WentOn p p' ((call ▸ result) ∷ [])

  -- One call on a panel, which was named by its driver, and told to it with its result.
  pub record Performed {Dr : Type 0} (D : drivers.Ghosts Dr) (p p' : Panel X G) (d d' : Dr) (buffer buffer' : List ℕ)
      (call : Call flow_channel) : Type 0 where
    pub result : Result flow_channel
    pub does : Does p p' call result
    pub through : Through p p' call result
    pub heard : D.hears d d' (call ▸ result)
    pub left : buffer' ≡ buffer_of result buffer

  -- Each call of a trace did what it does, one after another, on a panel that was set up or on one that was not, and
  -- took the rack through just its own writes.
  pub data DoesAll (p : Panel X G) : Trace flow_channel → Panel X G → Type 0 where
    none : DoesAll p [] p
    more : {trace : Trace flow_channel} {p₁ p₂ : Panel X G} {call : Call flow_channel} {result : Result flow_channel}
        → DoesAll p trace p₁ → Does p₁ p₂ call result → Through p₁ p₂ call result
        → DoesAll p (trace ++ ((call ▸ result) ∷ [])) p₂

  module _ {Dr : Type 0} (D : drivers.Ghosts Dr) (p p' : Panel X G) (d d' : Dr) (buffer buffer' : List ℕ) where
    -- A panel was set up under a supply, and worked by a driver that named each call knowing the results of all
    -- earlier ones: of the trace of these calls the whole promise holds. The set-up leaves the rack as it is, and
    -- each call takes it through just its own writes.
    pub record Worked (supply : ℕ) : Type 0 where
      pub trace : Trace flow_channel
      pub begun : Panel X G
      pub same_rack : begun.rack ≡ p.rack
      pub done : DoesAll begun trace p'
      pub driven : Driven D.names D.hears (length buffer) D.ends d trace d'
      pub underway : Underway supply (records_in p) trace p'
      pub left : buffer' ≡ buffer_after trace buffer

    -- It was worked on: each call did what it does, and whatever was promised of the calls till then is promised of
    -- those and these.
    pub record WorkedOn : Type 0 where
      pub trace : Trace flow_channel
      pub driven : Driven D.names D.hears (length buffer) D.ends d trace d'
      pub left : buffer' ≡ buffer_after trace buffer
      pub done : DoesAll p trace p'
      pub underway : WentOn p p' trace
