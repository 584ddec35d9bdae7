-- A ceiling over a rack.
use Rattle.std.specs.Prelude.{◌≡◌, ℕ, min, List, map, Some, None, Err, Option, Result}
use Rattle.std.specs.Result.{result_err}
use Rattle.record.specs.declared.Fields.{Fields}
use Rattle.record.specs.declared.Record.{Record}
use Rattle.rack.specs.Changes.{refused_by, unless}
use Rattle.rack.specs.Edits.{Edit, setpoint}
use Rattle.rack.specs.Meaning.{answered, channel_of}
use Rattle.rack.specs.Writes.{WriteRelation}

-- fields with the smaller of their own ceiling and another
abbrev pub lowered_fields : ℕ → Fields → Fields
lowered_fields percent f = record f { ceiling = min percent f.ceiling }

-- a record under a ceiling: its own ceiling, or that one if it is smaller
abbrev pub lowered : ℕ → Record → Record
lowered percent r = record r { fields = lowered_fields percent r.fields }

abbrev pub lowered_all : ℕ → List Record → List Record
lowered_all percent records = map (lowered percent) records

-- What a write is answered under a ceiling, by the records of the rack below: 101 where the channel has none, and else as a record
-- would whose ceiling is the smaller of the two.
abbrev pub answer_under : ℕ → List Record → ℕ → Edit → Result (Unit {0}) ℕ
answer_under percent records channel edit =
    answered (λ r. unless (refused_by edit (lowered_fields percent r.fields)) tt) (channel_of records channel)

-- The number by which a ceiling turns a write away: only a setpoint's, which then does not reach the rack below.
abbrev pub turned_away : ℕ → List Record → ℕ → Edit → Option ℕ
turned_away percent records channel (setpoint pattern) =
    result_err (answer_under percent records channel (setpoint pattern))
turned_away percent records channel edit = None

-- Where a ceiling turns a write away, the rack below is the same value; any other write goes through it, once.
abbrev pub passed_on : {X : Type 0} → WriteRelation X → Option ℕ → WriteRelation X
passed_on wrote None old new channel edit answer = wrote old new channel edit answer
passed_on wrote (Some number) old new channel edit answer = (new ≡ old) × (answer ≡ Err number)
