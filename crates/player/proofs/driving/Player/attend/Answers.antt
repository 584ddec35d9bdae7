use Rattle.player.proofs.Pauses.{on_ok}
use Rattle.player.proofs.driving.Player.attend.Goals as goal

pub returns-in-Look : goal.returns-in-Look
returns-in-Look g c = record {
  goes = c.look.ensures.progress;
  format = c.look.ensures.format;
  prints = λ s taken most total w. on_ok c.look.result (λ prints. record { state = s; stands = w.0; prints = prints }) (c.look.ensures.looked s taken most total (w.0, rw c.in-Look.is at w.1));
}

pub returns-in-SetUp : goal.returns-in-SetUp
returns-in-SetUp g c = record {
  goes = c.set_up.ensures.progress;
  format = c.set_up.ensures.format;
  prints = λ s taken most total w. c.set_up.ensures.set_up s taken most total (w.0, rw c.in-SetUp.is at w.1);
}
