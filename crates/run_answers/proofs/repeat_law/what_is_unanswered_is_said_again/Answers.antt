use Rattle.run_answers.proofs.repeat_law.Runs.{each_run, each_tick}
use Rattle.run_answers.proofs.repeat_law.what_is_unanswered_is_said_again.Goals as goal

pub returns : goal.returns
returns c = record { events = each_tick; runs = each_run }
