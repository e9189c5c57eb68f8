use Rattle.log_scan.proofs.Starts.{start_kept, start_told}
use Rattle.log_scan.proofs.laws.start_is_kept.Goals as goal

pub returns-clause-stage : goal.returns-clause-stage
returns-clause-stage c = start_kept

pub returns-clause-told : goal.returns-clause-told
returns-clause-told c = start_told
