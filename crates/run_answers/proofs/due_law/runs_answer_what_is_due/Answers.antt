use Rattle.run_answers.proofs.due_law.Runs.{each_run}
use Rattle.run_answers.proofs.due_law.runs_answer_what_is_due.Goals as goal

pub returns : goal.returns
returns c = record { runs = each_run c.other_events_are_seen.ensures.start c.other_events_are_seen.ensures.events }
