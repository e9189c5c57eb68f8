use Rattle.coop_cache.proofs.Leavings.{told_where_full}
use Rattle.coop_cache.proofs.laws.victim_only_where_full.Goals as goal

pub returns : goal.returns
returns c = told_where_full
