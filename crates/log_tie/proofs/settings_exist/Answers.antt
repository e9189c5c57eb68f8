use Rattle.log_tie.proofs.Exist.{some_setting}
use Rattle.log_tie.proofs.settings_exist.Goals as goal

pub returns : goal.returns
returns c = some_setting
