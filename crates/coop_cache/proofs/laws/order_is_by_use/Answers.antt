use Rattle.coop_cache.proofs.LastUses.{by_use}
use Rattle.coop_cache.proofs.laws.order_is_by_use.Goals as goal

pub returns : goal.returns
returns c = by_use
