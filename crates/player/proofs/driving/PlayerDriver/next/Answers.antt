use Rattle.std.proofs.Common.{refl, ap}
use Rattle.player.specs.Progress.{going?}
use Rattle.player.proofs.Printing.{is_going}
use Rattle.player.proofs.driving.PlayerDriver.next.Goals as goal
use Rattle.player.proofs.driving.PlayerDriver.next.Goals.{in-Ok-Some-Look, in-Ok-Some-SetUp, in-Ok-None, in-Err}

pub returns-in-Ok-Some-Call : goal.returns-in-Ok-Some-Call
returns-in-Ok-Some-Call g c =
    let going = is_going c.args.self.now.progress c.if-not-is_going.ensures in
    record {
      went = going;
      goes = going;
      format = refl;
      prints = λ s taken most total p. rw (c.in-Ok-Some-Call.field-0-is, c.in-Ok-Some-Call.field-0-0-is) at (c.in-Ok-Some-Call.ensures s taken most total p);
    }

pub returns : goal.returns
returns g c =
    let going = is_going c.args.self.now.progress c.if-not-is_going.ensures in
    record {
      same = λ h. let k = c.if-not-is_going.ensures in cc;
      stopped = elim c.match-next_asked.branch [
        | in-Ok-Some-Look w ↦ ap going? w.progress-is
        | in-Ok-Some-SetUp w ↦ ap going? w.progress-is
        | in-Ok-None w ↦ ap going? w.progress-is
        | in-Err w ↦ ap going? w.progress-is
      ];
      format = refl;
      prints = λ so s taken most total p. elim c.match-next_asked.branch [
        | in-Ok-Some-Look w ↦ rw w.progress-is (rw (w.in-Ok-Some-Look.field-0-is, w.in-Ok-Some-Look.field-0-0-is) at (w.in-Ok-Some-Look.ensures s taken most total p))
        | in-Ok-Some-SetUp w ↦ rw w.progress-is (rw (w.in-Ok-Some-SetUp.field-0-is, w.in-Ok-Some-SetUp.field-0-0-is) at (w.in-Ok-Some-SetUp.ensures s taken most total p))
        | in-Ok-None w ↦ rw w.progress-is (rw w.in-Ok-None.field-0-is at (w.in-Ok-None.ensures s taken most total p))
        | in-Err w ↦ rw w.progress-is (w.in-Err.ensures s taken most total p)
      ];
    }
