-- The laws speak of something: there are settings, and maps of groups as the world owes them.
use Rattle.group_map.specs.GroupMapState.{GroupMapState}
use Rattle.log_tie.specs.Setting.{Setting}
use Rattle.log_tie.specs.Scans.{WholeMap}

-- a setting and a whole map whose servers are all of generation 1
abbrev pub SomeSetting : Type 0
SomeSetting = (g : Setting) × (m : GroupMapState) × WholeMap g (λ v. 1) m
