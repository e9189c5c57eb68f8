-- A client reads by a map of groups: the walk of the maps that it knows, for what is true of every map of groups.
use Rattle.std.proofs.Common.{List, [], ◌∷◌, Option, Some, None}
use Rattle.std.specs.Prelude.{IfSome}
use Rattle.std.specs.List.{AllByRecursion}
use Rattle.client_node.specs.declared.client.Client.{Client}
use Rattle.client_node.specs.declared.phase.Phase.{Phase}
use Rattle.client_node.specs.declared.phase.Phase.TheVariants.{Down, Opening, Serving as Serves}
use Rattle.client_node.specs.Phases.{client_step}
use Rattle.client_node.specs.Starting.{client_start}
use Rattle.group_map.specs.GroupMapState.{GroupMapState}
use Rattle.group_map.specs.WellFormed.{IsGroupMap}
use Rattle.node_slots.specs.client_law.Events.{after_events}
use Rattle.node_slots.proofs.client_law.Groups.{has_present}
use Rattle.node_slots.specs.client_law.Grouped.{KnowsSuch}
use Rattle.node_slots.specs.client_law.Groups.{HasPresentGroups}
use Rattle.node_slots.specs.client_law.Maps.{DoBrings}
use Rattle.wire_msg.specs.declared.packet.Do.{Do}
use Rattle.run_losses.specs.fetching_law.Present.{ReadsByPresentGroups, groups_read}
use Rattle.run_losses.proofs.fetching_law.Maps.{StandsWell, stands_first, stands_on}

after_all : (client : Client) (events : List Do) → AllByRecursion (DoBrings IsGroupMap) events → StandsWell IsGroupMap client.phase
    → StandsWell IsGroupMap (after_events client events).phase
after_all client [] brings h = h
after_all client (what ∷ rest) brings h = after_all (client_step client what).node rest brings.1 (stands_on IsGroupMap client what brings.0 h)

known_present : (groups : Option GroupMapState) → KnowsSuch IsGroupMap groups → IfSome groups HasPresentGroups
known_present None known = tt
known_present (Some groups) known = has_present groups known

reads_so : (p : Phase) → StandsWell IsGroupMap p → IfSome (groups_read p) HasPresentGroups
reads_so (Down l) h = tt
reads_so (Opening l o) h = known_present o.known.maps.groups h
reads_so (Serves s) h = known_present s.maps.groups h.known

pub reads_by_present_groups : ReadsByPresentGroups
reads_by_present_groups number setup works events first brings =
    reads_so (after_events (client_start number setup works) events).phase
    (after_all (client_start number setup works) events brings (stands_first IsGroupMap number setup works first))
