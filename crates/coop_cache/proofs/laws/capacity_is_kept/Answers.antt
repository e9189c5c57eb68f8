use Rattle.coop_cache.proofs.LastUses.{capacity_kept}
use Rattle.coop_cache.proofs.laws.capacity_is_kept.Goals as goal

pub returns : goal.returns
returns c = capacity_kept
