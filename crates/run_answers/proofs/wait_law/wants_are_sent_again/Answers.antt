use Rattle.run_answers.proofs.wait_law.Again.{each_tick}
use Rattle.run_answers.proofs.wait_law.Runs.{each_again}
use Rattle.run_answers.proofs.wait_law.wants_are_sent_again.Goals as goal

pub returns : goal.returns
returns c = record { events = each_tick; runs = each_again }
