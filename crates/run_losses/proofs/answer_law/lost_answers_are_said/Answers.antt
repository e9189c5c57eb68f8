use Rattle.run_losses.proofs.answer_law.Cleaners.{the_cleaner_says}
use Rattle.run_losses.proofs.answer_law.Clients.{clients_say, clients_start_well}
use Rattle.run_losses.proofs.answer_law.Others.{others_say_none}
use Rattle.run_losses.proofs.answer_law.Runs.{runs_say}
use Rattle.run_losses.proofs.answer_law.lost_answers_are_said.Goals as goal

pub returns : goal.returns
returns c = record {
  start = clients_start_well;
  clients = clients_say;
  cleaner = the_cleaner_says;
  others = others_say_none;
  runs = runs_say;
}
