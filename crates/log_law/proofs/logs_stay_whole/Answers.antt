use Rattle.log_law.proofs.Wholeness.{logs_stay_whole}
use Rattle.log_law.proofs.logs_stay_whole.Goals as goal

pub returns : goal.returns
returns c = record { whole = logs_stay_whole c.below.ensures }
