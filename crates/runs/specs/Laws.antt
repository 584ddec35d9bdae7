-- What every run of a panel keeps.
use Rattle.std.specs.Prelude.{◌≡◌, ℕ, ◌+◌, ◌<◌, ◌≤◌, true, ◌⊎◌, ◌↔◌, List, [], ◌∷◌, ◌++◌, map, length}
use Rattle.line.specs.Answers.{answer_room}
use Rattle.runs.specs.Devices.{Device}
use Rattle.runs.specs.Places.{At, OnlyAt}
use Rattle.runs.specs.Shares.{total}
use Rattle.runs.specs.Traces.{Rack, Pending, Call, Result, Trace, character, gap, silent, answered, ◌▸◌}
use Rattle.runs.specs.Steps.{Step, Run}
use Rattle.runs.specs.Histories.{pending_after, granted, Standing, standings, granted_total, granted_others, answers_of, local_results_of, lone}

module _ (D : Device) where
  abbrev pub calls_of : Trace D → List (Call D)
  calls_of es = map (λ e. e.call) es

  -- of the run from set-up with these records through a trace: its calls have no other results, no other records after
  -- them, and no other pending characters
  abbrev pub Unique : ℕ → Rack D → Trace D → Rack D → Pending D → Type 0
  Unique capacity records trace after pending =
      (es : Trace D) (records' : Rack D) (pending' : Pending D)
      → Run D capacity records [] es records' pending' → calls_of es ≡ calls_of trace
      → (es ≡ trace) × (records' ≡ after) × (pending' ≡ pending)

  -- The channel at this place, whose record was r at set-up and is r' after the trace, does what it does on a panel
  -- that holds it alone.
  pub record Isolated (capacity : ℕ) (place : ℕ) (r : D.Record) (trace : Trace D) (r' : D.Record) : Type 0 where
    -- that panel's set-up is taken
    pub fits : total D (r ∷ []) ≤ capacity
    -- it ends with the very record of the channel, in all its bytes
    pub run : Run D capacity (r ∷ []) [] (lone D place [] trace) (r' ∷ []) []
    -- with these calls it has no other run
    pub unique : Unique capacity (r ∷ []) (lone D place [] trace) (r' ∷ []) []
    -- the answers, in number, order and content, and the results of local operations
    pub answers : answers_of D 0 (lone D place [] trace) ≡ answers_of D place trace
    pub local_results : local_results_of D 0 (lone D place [] trace) ≡ local_results_of D place trace

  -- after these interactions the trace goes on with a taken gap, with this result
  pub record TakenGap (trace before : Trace D) (n : ℕ) (result : Result D) : Type 0 where
    pub after : Trace D
    pub next : trace ≡ before ++ ((gap n ▸ result) ∷ after)
    pub room : answer_room ≤ n

  -- silence, or an answer that only tells a communication error
  abbrev pub ErrorAtMost : Result D → Type 0
  ErrorAtMost result =
      (result ≡ silent) ⊎ ((place : ℕ) × (a : D.Answer) × (result ≡ answered place a) × D.CommunicationError a)

  -- the channel at this place answers by the header's refusal
  abbrev pub Denied : Result D → ℕ → Type 0
  Denied result place = (a : D.Answer) × (result ≡ answered place a) × (D.denial? a ≡ true)

  -- The transmission is a setpoint command past every refusal but the header's, means just the channel at this place,
  -- and asks for more than the granted shares of the others leave of the capacity, all judged by the standings.
  pub record Exceeds (capacity : ℕ) (standings : List (Standing D)) (pending : Pending D) (place : ℕ) : Type 0 where
    pub standing : Standing D
    pub stands : At standings place standing
    pub command : D.setpoint? pending ≡ true
    pub asks : D.asks_by? standing.nameplate standing.grant pending ≡ true
    pub meant : OnlyAt (λ s. D.meant_by? s.nameplate s.grant pending) standings place
    pub above : capacity < granted_others D standings place + D.asked standing.nameplate pending

  -- the laws of a run from set-up with these records, nothing pending, to the records and the pending characters after
  -- it
  pub record Kept (capacity : ℕ) (records : Rack D) (trace : Trace D) (after : Rack D) (pending : Pending D)
      : Type 0 where
    -- its calls have no other run
    pub unique : Unique capacity records trace after pending
    -- each channel does what it does alone
    pub isolated : (place : ℕ) (r : D.Record) → At records place r
        → (r' : D.Record) × At after place r' × Isolated capacity place r trace r'
    -- a character changes no record
    pub characters : (records₁ records₂ : Rack D) (pending₁ pending₂ : Pending D) (c : D.Character) (result : Result D)
        → Step D capacity records₁ pending₁ (character c ▸ result) records₂ pending₂ → records₂ ≡ records₁
    -- a gap that ends a damaged transmission changes none either, and gets no answer but a communication error
    pub damaged_rack : (before : Trace D) (n : ℕ) (result : Result D)
        → TakenGap trace before n result → D.Damaged (pending_after D [] before)
        → (records₁ records₂ : Rack D) (pending₁ pending₂ : Pending D)
        → Run D capacity records [] before records₁ pending₁
        → Step D capacity records₁ pending₁ (gap n ▸ result) records₂ pending₂ → records₂ ≡ records₁
    pub damaged_result : (before : Trace D) (n : ℕ) (result : Result D)
        → TakenGap trace before n result → D.Damaged (pending_after D [] before) → ErrorAtMost result
    -- at every moment the granted shares fit the capacity
    pub fits : (before later : Trace D) → trace ≡ before ++ later
        → granted_total D (standings D records before) ≤ capacity
    -- the header refuses exactly what exceeds the capacity
    pub exact : (before : Trace D) (n : ℕ) (result : Result D) (place : ℕ) → TakenGap trace before n result
        → Denied result place ↔ Exceeds capacity (standings D records before) (pending_after D [] before) place
    -- a record holds what the history tells, and its nameplate as at set-up
    pub tells : (place : ℕ) (r r' : D.Record) → At records place r → At after place r'
        → (D.grant r' ≡ granted D place (D.grant r) [] trace) × (D.nameplate r' ≡ D.nameplate r)
    -- the rack keeps its channels, and pending is what was taken since the last taken gap
    pub count : length after ≡ length records
    pub pending_is : pending ≡ pending_after D [] trace

  -- every run from a set-up that is taken keeps the laws
  abbrev pub Promise : ℕ → Type 0
  Promise capacity = (records after : Rack D) (trace : Trace D) (pending : Pending D)
      → Run D capacity records [] trace after pending → total D records ≤ capacity
      → Kept capacity records trace after pending

  -- A run of a panel that holds the channel at this place alone, through a trace to records, beside a run of the whole
  -- panel: it has the results and the record of that channel.
  pub record Alike (place : ℕ) (trace : Trace D) (after : Rack D) (alone : Trace D) (alone_after : Rack D)
      : Type 0 where
    -- the calls of the channel, with the results that they had
    pub same_trace : alone ≡ lone D place [] trace
    -- the very record of the channel, in all its bytes
    pub r' : D.Record
    pub stands : At after place r'
    pub same_record : alone_after ≡ r' ∷ []
    -- the answers, in number, order and content, and the results of local operations
    pub same_answers : answers_of D 0 alone ≡ answers_of D place trace
    pub same_local_results : local_results_of D 0 alone ≡ local_results_of D place trace
