use Rattle.group_rebuild.proofs.Filling.{filled_from}
use Rattle.group_rebuild.proofs.laws.fills_are_cut.Goals as goal

pub returns : goal.returns
returns c = filled_from
