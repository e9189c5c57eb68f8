use Rattle.coop_cache.proofs.LastUses.{victims_least}
use Rattle.coop_cache.proofs.laws.victim_is_least_recently_used.Goals as goal

pub returns : goal.returns
returns c = victims_least
