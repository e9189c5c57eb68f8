use Rattle.run_answers.proofs.due_law.Dues.{each_due}
use Rattle.run_answers.proofs.due_law.what_is_due_is_answered.Goals as goal

pub returns : goal.returns
returns c = record { dues = each_due }
