use Rattle.token_manager.proofs.AppliedRises.{counted-all}
use Rattle.token_manager.proofs.laws.counts_follow_the_index.Goals as goal

pub returns : goal.returns
returns c = counted-all
