use Rattle.token_manager.proofs.JobsBarGrants.{barred-all}
use Rattle.token_manager.proofs.laws.waiting_bars_grants.Goals as goal

pub returns : goal.returns
returns c = barred-all
