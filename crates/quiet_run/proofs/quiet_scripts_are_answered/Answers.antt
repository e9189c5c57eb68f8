use Rattle.quiet_run.proofs.Leading.{scripts_are_answered}
use Rattle.quiet_run.proofs.quiet_scripts_are_answered.Goals as goal

pub returns : goal.returns
returns c = record { by_lines = scripts_are_answered }
