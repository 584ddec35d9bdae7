-- A channel of a panel, and a panel that holds it alone.
use Rattle.std.specs.Prelude.{◌≡◌, ℕ, Bool, true, false, List, [], ◌∷◌, Some, None, Option}
use Rattle.std.specs.Str.{bytes_eq}
use Rattle.rack.specs.declared.racks.Rack.{Ghosts}
use Rattle.record.specs.Layout.{encoded}
use Rattle.record.specs.declared.Record.{Record}
use Rattle.runs.specs.Channel.{flow_channel}
use Rattle.runs.specs.Histories.{lone}
use Rattle.runs.specs.Laws.{Alike, calls_of}
use Rattle.runs.specs.Places.{At}
use Rattle.runs.specs.SetUps.{SetUp}
use Rattle.runs.specs.Traces.{Trace}
use Rattle.setup.specs.SetUps.{set_up_refusal}
use Rattle.panel.specs.declared.state.Panel.{Panel}
use Rattle.panel.specs.Panels.{records_in}
use Rattle.panel.specs.Working.{Underway}

-- whether the record of a channel is the only one of these, byte for byte
abbrev pub only_record? : Option Record → List Record → Bool
only_record? (Some r) (q ∷ []) = bytes_eq (encoded r) (encoded q)
only_record? (Some r) [] = false
only_record? (Some r) (q ∷ s ∷ records) = false
only_record? None records = false

module _ {X Y : Type 0} {G : Ghosts X} {H : Ghosts Y} where
  -- ISOLATION OF PANELS. A panel is under way by a trace since a set-up under a supply, when its rack meant the
  -- records before, and one of them was r. Another panel, over any rack:
  pub record Apart (supply : ℕ) (place : ℕ) (r : Record) (trace : Trace flow_channel) (p : Panel X G) (q : Panel Y H)
      (told : Bool) : Type 0 where
    -- its set-up is not refused, if it holds just r
    pub unrefused : records_in q ≡ r ∷ [] → set_up_refusal supply (records_in q) ≡ None
    pub set_up : SetUp supply (r ∷ [])
    -- if it was set up so and is under way by the calls of that channel, it has that channel's results and its record
    pub alike : (alone : Trace flow_channel) → Underway supply (r ∷ []) alone q
        → calls_of flow_channel alone ≡ calls_of flow_channel (lone flow_channel place [] trace)
        → Alike flow_channel place trace (records_in p) alone (records_in q) × (told ≡ true)

  -- the same of whatever set-up and trace the panel is under way by, and whichever of its channels this is
  abbrev pub Isolates : Panel X G → ℕ → Panel Y H → Bool → Type 0
  Isolates p place q told = (supply : ℕ) (before : List Record) (trace : Trace flow_channel) (r : Record)
      → Underway supply before trace p → At before place r → Apart supply place r trace p q told
