-- The map of groups by which a client reads is one that it was told, or that of the setup.
use Rattle.std.specs.Prelude.{ℕ, IfSome, List, Option, None}
use Rattle.std.specs.List.{AllByRecursion}
use Rattle.client_node.specs.declared.phase.Phase.{Phase}
use Rattle.client_node.specs.declared.phase.Phase.TheVariants.{Down, Opening, Serving as Serves}
use Rattle.client_node.specs.Starting.{client_start}
use Rattle.group_map.specs.GroupMapState.{GroupMapState}
use Rattle.group_map.specs.Groups.{group_map_start}
use Rattle.group_map.specs.WellFormed.{IsGroupMap}
use Rattle.node_slots.specs.client_law.Events.{after_events}
use Rattle.node_slots.specs.client_law.Groups.{HasPresentGroups}
use Rattle.node_slots.specs.client_law.Maps.{DoBrings}
use Rattle.version_model.specs.declared.work.Work.{Work}
use Rattle.wire_msg.specs.declared.packet.Do.{Do}
use Rattle.xfs_base.specs.declared.setup.Setup.{Setup}

-- the map by which it reads, back through its log or for its call
abbrev pub groups_read : Phase → Option GroupMapState
groups_read (Down l) = None
groups_read (Opening l o) = o.known.maps.groups
groups_read (Serves s) = s.maps.groups

-- After any events: where what is true of every map of groups is true of the setup's, and of each that comes.
abbrev pub ReadsByPresentGroups : Type 0
ReadsByPresentGroups =
    (number : ℕ) (setup : Setup) (works : List Work) (events : List Do) → IsGroupMap (group_map_start setup.servers setup.groups)
    → AllByRecursion (DoBrings IsGroupMap) events
    → IfSome (groups_read (after_events (client_start number setup works) events).phase) HasPresentGroups
