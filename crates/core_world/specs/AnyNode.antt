-- A node of any kind: its first state, and its transition.
use Rattle.std.specs.Prelude.{List}
use Rattle.client_node.specs.Phases.{client_step}
use Rattle.client_node.specs.Starting.{client_start}
use Rattle.manager_node.specs.Events.{manager_start, manager_step}
use Rattle.cleaner_node.specs.CleanerEvents.{cleaner_step, cleaner_start}
use Rattle.registry_node.specs.Events.{registry_step, registry_start}
use Rattle.store_nodes.specs.ServerEvents.{server_step, server_start}
use Rattle.version_model.specs.declared.work.Work.{Work}
use Rattle.wire_msg.specs.declared.packet.Do.{Do}
use Rattle.wire_msg.specs.NodeStep.{NodeStep}
use Rattle.xfs_base.specs.declared.node.NodeId.{NodeId}
use Rattle.xfs_base.specs.declared.node.NodeId.TheVariants as nodes
use Rattle.xfs_base.specs.declared.setup.Setup.{Setup}
use Rattle.core_world.specs.declared.any_node.AnyNode.{AnyNode}
use Rattle.core_world.specs.declared.any_node.AnyNode.TheVariants.{Client, Manager, Server, Cleaner, Registry}

-- a step of a node of one kind, as one of any
abbrev pub as_any : {N : Type 0} → (N → AnyNode) → NodeStep N → NodeStep AnyNode
as_any of_kind stepped = record { node = of_kind stepped.node; packets = stepped.packets; acts = stepped.acts }

-- each node takes an event as its kind does
abbrev pub any_step : AnyNode → Do → NodeStep AnyNode
any_step (Client node) what = as_any Client (client_step node what)
any_step (Manager node) what = as_any Manager (manager_step node what)
any_step (Server node) what = as_any Server (server_step node what)
any_step (Cleaner node) what = as_any Cleaner (cleaner_step node what)
any_step (Registry node) what = as_any Registry (registry_step node what)

-- a node of a setup before its first event, with its items
abbrev pub any_start : NodeId → Setup → List Work → AnyNode
any_start (nodes.Client number) setup items = Client (client_start number setup items)
any_start (nodes.Manager number) setup items = Manager (manager_start number setup items)
any_start (nodes.Server number) setup items = Server (server_start number setup items)
any_start nodes.Cleaner setup items = Cleaner (cleaner_start setup items)
any_start nodes.Registry setup items = Registry (registry_start setup items)
