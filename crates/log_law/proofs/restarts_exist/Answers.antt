use Rattle.log_law.proofs.Adopted.{some_restarts}
use Rattle.log_law.proofs.restarts_exist.Goals as goal

pub returns : goal.returns
returns c = some_restarts
