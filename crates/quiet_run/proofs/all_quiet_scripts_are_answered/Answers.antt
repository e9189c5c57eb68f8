use Rattle.quiet_run.proofs.Sharing.{all_quiet_scripts, lines_lead}
use Rattle.quiet_run.proofs.all_quiet_scripts_are_answered.Goals as goal

pub returns : goal.returns
returns c = record { lines = lines_lead; answered = all_quiet_scripts }
