-- The maps of groups that an opening has: the one that it knows, and the one over which its log stripes.
use Rattle.group_map.specs.GroupMapState.{GroupMapState}
use Rattle.log_owner.specs.declared.opened.Progress.{Progress}
use Rattle.log_owner.specs.declared.opened.Progress.TheVariants as progress
use Rattle.node_slots.specs.client_law.Grouped.{HasSuchMaps}

-- the maps stay so, and so is the one over which the log stripes that is open
abbrev pub OpensBySuch : (GroupMapState → Type 0) → Progress → Type 0
OpensBySuch Is (progress.Opening o) = HasSuchMaps Is o
OpensBySuch Is (progress.Opened o) = Is o.log.groups
OpensBySuch Is (progress.Lost seg) = Unit {0}
