use Rattle.group_map.proofs.WellFormedMaps.{IsGroupMap-after}
use Rattle.group_map.proofs.laws.map_stays_well_formed.Goals as goal

pub returns : goal.returns
returns c = IsGroupMap-after
