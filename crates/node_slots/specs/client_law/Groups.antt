-- The map of groups over which a client stripes its segments, and what is true of every map of groups that it was told.
use Rattle.std.specs.Prelude.{◌≡◌, ℕ, All, IsTrue, List, Some}
use Rattle.std.specs.List.{AllByRecursion}
use Rattle.client_node.specs.Starting.{client_start}
use Rattle.group_map.specs.declared.group.Group.{Group}
use Rattle.group_map.specs.GroupMapState.{GroupMapState}
use Rattle.group_map.specs.Groups.{generation_at, group_of, group_map_start}
use Rattle.group_map.specs.WellFormed.{IsGroupMap}
use Rattle.version_model.specs.declared.work.Work.{Work}
use Rattle.wire_msg.specs.declared.packet.Do.{Do}
use Rattle.xfs_base.specs.declared.setup.Setup.{Setup}
use Rattle.node_slots.specs.client_law.Events.{WhereItServes, after_events}
use Rattle.node_slots.specs.client_law.Maps.{DoBrings}

pub record HasPresentGroups (groups : GroupMapState) : Type 0 where
  -- what is true of every map of groups is true of it
  pub whole : IsGroupMap groups
  -- so each member of a current group is at the generation that its server has in the map
  pub present : (id : ℕ) (group : Group) → group_of groups id ≡ Some group → IsTrue group.current
      → All (λ m. m.generation ≡ generation_at groups.generations m.server) group.members

-- After any events: where what is true of every map of groups is true of the setup's, and of each that comes.
abbrev pub StripesByPresentGroupsAlways : Type 0
StripesByPresentGroupsAlways =
    (number : ℕ) (setup : Setup) (works : List Work) (events : List Do) → IsGroupMap (group_map_start setup.servers setup.groups)
    → AllByRecursion (DoBrings IsGroupMap) events
    → WhereItServes (λ s. HasPresentGroups s.log.groups) (after_events (client_start number setup works) events).phase
