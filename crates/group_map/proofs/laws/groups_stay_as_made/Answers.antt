use Rattle.group_map.proofs.KeptGroups.{stays}
use Rattle.group_map.proofs.laws.groups_stay_as_made.Goals as goal

pub returns : goal.returns
returns c = stays
