use Rattle.log_law.proofs.InLine.{logs_stay_in_line}
use Rattle.log_law.proofs.logs_stay_in_line.Goals as goal

pub returns : goal.returns
returns c = record { line = logs_stay_in_line c.below.ensures }
