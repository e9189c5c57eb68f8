use Rattle.run_answers.proofs.due_law.Turns.{each_event, starts_serve}
use Rattle.run_answers.proofs.due_law.nodes_serve_until_they_crash.Goals as goal

pub returns : goal.returns
returns c = record { starts = starts_serve; events = each_event }
