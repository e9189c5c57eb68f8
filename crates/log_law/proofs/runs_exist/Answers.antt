use Rattle.log_law.proofs.Running.{some_segment_filed}
use Rattle.log_law.proofs.runs_exist.Goals as goal

pub returns : goal.returns
returns c = some_segment_filed
