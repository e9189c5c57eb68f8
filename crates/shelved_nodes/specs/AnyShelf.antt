-- The shelf of a node of any kind: a server has one, and no other node.
use Rattle.std.specs.Prelude.{◌≡◌, List, Option, Some, None, refl}
use Rattle.core_world.specs.AnyNode.{any_start, any_step}
use Rattle.core_world.specs.declared.any_node.AnyNode.{AnyNode}
use Rattle.core_world.specs.declared.any_node.AnyNode.TheVariants.{Client, Manager, Server, Cleaner, Registry}
use Rattle.fragment_store.specs.ShelfState.{ShelfState}
use Rattle.shelf_changes.proofs.Events.{events_change_by_one}
use Rattle.version_model.specs.declared.work.Work.{Work}
use Rattle.wire_msg.specs.declared.packet.Do.{Do}
use Rattle.xfs_base.specs.declared.node.NodeId.{NodeId}
use Rattle.xfs_base.specs.declared.node.NodeId.TheVariants as nodes
use Rattle.xfs_base.specs.declared.setup.Setup.{Setup}
use Rattle.shelved_nodes.specs.Shelves.{ShelvesChange, first_shelf}

abbrev pub any_shelf : AnyNode → Option ShelfState
any_shelf (Server node) = Some node.shelf
any_shelf _ = None

pub any_shelf_changes : (node : AnyNode) (what : Do) → ShelvesChange what (any_shelf node) (any_shelf (any_step node what).node)
any_shelf_changes (Server node) what = events_change_by_one node what
any_shelf_changes _ what = tt

pub any_first_shelf : (node : NodeId) (setup : Setup) (items : List Work) → any_shelf (any_start node setup items) ≡ first_shelf node
any_first_shelf (nodes.Client number) setup items = refl
any_first_shelf (nodes.Manager number) setup items = refl
any_first_shelf (nodes.Server number) setup items = refl
any_first_shelf nodes.Cleaner setup items = refl
any_first_shelf nodes.Registry setup items = refl
