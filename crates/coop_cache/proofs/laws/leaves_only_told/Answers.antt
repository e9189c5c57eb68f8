use Rattle.coop_cache.proofs.Leavings.{leaves_told}
use Rattle.coop_cache.proofs.laws.leaves_only_told.Goals as goal

pub returns : goal.returns
returns c = λ s input block. leaves_told block s input
