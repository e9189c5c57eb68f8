-- What maps events bring to a client.
use Rattle.group_map.specs.GroupMapState.{GroupMapState}
use Rattle.wire_msg.specs.declared.body.Body.{Body}
use Rattle.wire_msg.specs.declared.body.Body.TheVariants as body
use Rattle.wire_msg.specs.declared.packet.Do.{Do}
use Rattle.wire_msg.specs.declared.packet.Do.TheVariants.{Begin, Deliver, Tick}

-- the map of groups that is said is so
abbrev pub BringsMaps : (GroupMapState → Type 0) → Body → Type 0
BringsMaps Is (body.MapNews news) = Is news.groups
BringsMaps Is (body.Welcome welcome) = Is welcome.news.groups
BringsMaps Is _ = Unit {0}

abbrev pub DoBrings : (GroupMapState → Type 0) → Do → Type 0
DoBrings Is Begin = Unit {0}
DoBrings Is (Deliver packet) = BringsMaps Is packet.body
DoBrings Is Tick = Unit {0}
