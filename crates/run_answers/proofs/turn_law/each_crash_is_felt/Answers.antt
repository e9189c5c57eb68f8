use Rattle.run_answers.proofs.turn_law.Fallen.{crash_is_felt}
use Rattle.run_answers.proofs.turn_law.each_crash_is_felt.Goals as goal

pub returns : goal.returns
returns c = record { crashes = crash_is_felt }
