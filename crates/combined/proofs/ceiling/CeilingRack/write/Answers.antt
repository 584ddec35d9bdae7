use Rattle.std.proofs.Common.{◌≡◌, ◌≢◌, ℕ, Ok, Err, Result, OnOk, ap, ◌∙◌, refl, arith, rules}
use Rattle.rack.specs.Edits.{edit_of, setpoint}
use Rattle.rack.specs.declared.refusal.RackRefusal.{RackRefusal}
use Rattle.rack.specs.declared.changes.Change.{Change}
use Rattle.rack.specs.declared.changes.Change.TheVariants.{PollingAddress, Preambles, AssemblyNumber, Changed, Key, Sample, Text, Setpoint}
use Rattle.rack.proofs.Puts.{puts_at}
use Rattle.combined.specs.CeilingLaw.{all_lowered}
use Rattle.combined.specs.Ceilings.{lowered_all}
use Rattle.combined.proofs.Ceilings.{Passed, passed_plain, passed_setpoint, under_is}
use Rattle.combined.proofs.ceiling.CeilingRack.write.Goals as goal
use Rattle.combined.proofs.ceiling.CeilingRack.write.Goals.{in-Setpoint+in_ok-fields+in_ok-admitted, in_default}

-- what holds anyway
on_ok : {P : Type 0} (r : Result (Unit {0}) RackRefusal) → P → OnOk r P
on_ok (Ok x) p = p
on_ok (Err e) p = tt

-- what is no write of a setpoint
plain : (change : Change) → ((x : ℕ) → change ≢ Setpoint x) → (x : ℕ) → edit_of change ≢ setpoint x
plain (PollingAddress a) h x e = let z : ◌≡◌ {A = ℕ} 0 1 = cc in absurd (omega arith)
plain (Preambles n) h x e = let z : ◌≡◌ {A = ℕ} 0 1 = cc in absurd (omega arith)
plain (AssemblyNumber n) h x e = let z : ◌≡◌ {A = ℕ} 0 1 = cc in absurd (omega arith)
plain (Changed on) h x e = let z : ◌≡◌ {A = ℕ} 0 1 = cc in absurd (omega arith)
plain (Key on) h x e = let z : ◌≡◌ {A = ℕ} 0 1 = cc in absurd (omega arith)
plain (Sample reading) h x e = let z : ◌≡◌ {A = ℕ} 0 1 = cc in absurd (omega arith)
plain (Text place bytes) h x e = let z : ◌≡◌ {A = ℕ} 0 1 = cc in absurd (omega arith)
plain (Setpoint p) h x e = h p refl

pub returns : goal.returns
returns g c =
    let percent = c.args.self.now.percent in
    let records = g.R.Rack.records c.args.self.now.below in
    let edit = edit_of c.args.change in
    let p : Passed percent records c.args.channel edit = elim c.match-change.branch [
      | in-Setpoint+in_ok-fields+in_ok-admitted w ↦
          rw w.in-Setpoint.is
          (passed_setpoint percent records c.args.channel w.in_ok-fields.fields w.in_ok-fields.ensures.below w.in-Setpoint.pattern w.in_ok-admitted.field-0 w.in_ok-admitted.ensures)
      | in_default w ↦ passed_plain percent records c.args.channel edit (plain c.args.change w.in_default.not-Setpoint)
    ] in
    let answer = c.write.ensures.answer ∙ p.answer in
    let after = ap (lowered_all percent) c.write.ensures.after ∙ p.after in
    record {
      answer = answer;
      below = answer ∙ under_is percent records c.args.channel edit;
      after = after;
      held = on_ok c.write.result c.write.ensures.after;
      puts = puts_at (lowered_all percent records) _ c.args.channel edit (all_lowered percent records (g.met.R.Rack.lawful c.args.self.now.below)) c.write.result answer after;
      once = (refl, rw p.through c.write.ensures.once);
      same = search rules;
    }
