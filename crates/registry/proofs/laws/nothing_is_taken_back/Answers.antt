use Rattle.registry.proofs.Later.{later_all}
use Rattle.registry.proofs.laws.nothing_is_taken_back.Goals as goal

pub returns : goal.returns
returns c = later_all
