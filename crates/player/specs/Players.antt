-- What a player prints in all.
use Rattle.std.specs.Prelude.{◌≡◌, ℕ, suc, ◌+◌, ◌≤◌, true, false, List, [], ◌++◌, length, Ok, Option, Result, MatchOption, MatchResult, alloc_error}
use Rattle.recording.specs.Events.{calls, pauses, asked_of}
use Rattle.recording.specs.Lines.{line_of, rest_line}
use Rattle.recording.specs.declared.events.Event.{Event}
use Rattle.recording.specs.declared.events.Format.{Format}
use Rattle.runs.specs.Channel.{flow_channel}
use Rattle.runs.specs.Traces.{Call, Interaction}
use Rattle.stream.specs.Interruptions.{countless, CanInterrupt}
use Rattle.stream.specs.Streams.{View, view_of, with_told, Streams, AtEnd}
use Rattle.stream.specs.declared.interruption.Interruption.{Interruption}
use Rattle.stream.specs.declared.interruption.Interruption.TheVariants.{Memory}
use Rattle.player.specs.Outputs.{State, lines_of, lines_after}
use Rattle.player.specs.Progress.{going?}
use Rattle.player.specs.declared.driving.Player.{Player}
use Rattle.player.specs.declared.progress.Progress.{Progress}
use Rattle.player.specs.declared.progress.Progress.TheVariants.{Going, Waiting, Ended, Interrupted}

-- It was told a call with its result: the line of that waits to be written. Where memory is short for it, that
-- interrupts the player, and nothing else has changed.
pub data Hears {R W : Type 0} (p p' : Player R W) (e : Interaction flow_channel) : Type 0 where
  line_waits : p'.format ≡ p.format → p'.progress ≡ p.progress
      → view_of p'.stream ≡ with_told true (line_of e.result) (view_of p.stream) → Hears p p' e
  short : p'.format ≡ p.format → p'.progress ≡ Interrupted (Memory alloc_error)
      → (line_of e.result ≡ [] → ⊥) → view_of p'.stream ≡ view_of p.stream → Hears p p' e

module _ {R W : Type 0} (remaining : R → Option (List ℕ)) (contents : W → Option (List ℕ)) where
  -- What was printed, what the events to come print, and the line of the rest are this in all. With those that were
  -- taken the events are at most so many.
  pub record Prints (v : View R W) (lines : List (List ℕ) → List ℕ) (taken most : ℕ) (total : List ℕ)
      : Type 0 where
    pub events : List (List ℕ)
    pub rest : List ℕ
    pub out : List ℕ
    pub streams : Streams remaining contents v events rest out
    pub few : taken + length events ≤ most
    pub all : total ≡ out ++ (lines events ++ rest_line rest)

  -- the same where no event is to come any more
  pub record AllPrinted (v : View R W) (total : List ℕ) : Type 0 where
    pub events : List (List ℕ)
    pub rest : List ℕ
    pub out : List ℕ
    pub streams : Streams remaining contents v events rest out
    pub ends : AtEnd remaining contents v events rest
    pub all : total ≡ out ++ rest_line rest

  -- The next event that asks for something was taken, if there is one more; those before it were refused.
  abbrev pub Asks : View R W → View R W → Format → Result (Option Event) Interruption → Type 0
  Asks v v' f result = (s : State) (taken most : ℕ) (total : List ℕ)
      → Prints v (lines_of f s) taken most total → MatchResult result
      (λ o. MatchOption o (AllPrinted v' total)
      (λ e. Prints v' (lines_after f s (Ok (asked_of e))) (suc taken) most total))
      (CanInterrupt most)

  -- Going on, it named a call, of an event that it took: what is printed in all, on a panel in any state, is what
  -- that call prints and the events after it.
  pub record Names (p p' : Player R W) (c : Call flow_channel) : Type 0 where
    pub went : p.progress ≡ Going
    pub goes : p'.progress ≡ Going
    pub format : p'.format ≡ p.format
    pub prints : (s : State) (taken most : ℕ) (total : List ℕ)
        → Prints (view_of p.stream) (lines_of p.format s) taken most total
        → Prints (view_of p'.stream) (lines_after p.format s (Ok (calls c))) (suc taken) most total

  -- Where a player stands, by its progress, on a panel in some state: calls came to an end, though it goes on, only
  -- where there were more of them than can be counted; it waits for what is done with the panel; it has printed all;
  -- or it was interrupted.
  abbrev pub Stops : Progress → View R W → Format → State → ℕ → ℕ → List ℕ → Type 0
  Stops Going v f s taken most total = countless ≤ most
  Stops (Waiting pause) v f s taken most total =
      Prints v (lines_after f s (Ok (pauses pause))) taken most total
  Stops Ended v f s taken most total = AllPrinted v total
  Stops (Interrupted i) v f s taken most total = CanInterrupt most i

  abbrev pub Stopped : Player R W → State → ℕ → ℕ → List ℕ → Type 0
  Stopped p s taken most total = Stops p.progress (view_of p.stream) p.format s taken most total

  -- It ended the run: at once, and the same as before, if it had stopped already; else it has stopped now, and has
  -- taken an event more if it waits for something.
  pub record Ends (p p' : Player R W) : Type 0 where
    pub same : going? p.progress ≡ false → p' ≡ p
    pub stopped : going? p'.progress ≡ false
    pub format : p'.format ≡ p.format
    pub prints : p.progress ≡ Going → (s : State) (taken most : ℕ) (total : List ℕ)
        → Prints (view_of p.stream) (lines_of p.format s) taken most total → Stopped p' s (suc taken) most total
