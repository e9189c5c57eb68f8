use Rattle.group_map.proofs.WellFormedMaps.{IsGroupMap-group_map_start}
use Rattle.group_map.proofs.laws.map_starts_well_formed.Goals as goal

pub returns : goal.returns
returns c = IsGroupMap-group_map_start
