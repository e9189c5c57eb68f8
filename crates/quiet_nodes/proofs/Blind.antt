-- No node looks at the clock of a packet that comes.
use Rattle.std.proofs.Common.{◌≡◌, refl}
use Rattle.cleaner_serving.specs.EmptyingEvents as emptying
use Rattle.cleaner_node.specs.CleanerEvents as cleaners
use Rattle.cleaner_node.specs.declared.cleaner.Phase.TheVariants as cleaning
use Rattle.cleaner_node.specs.declared.cleaner.Phase.{Phase as CleanerPhase}
use Rattle.client_node.specs.declared.phase.Phase.TheVariants as clients
use Rattle.client_node.specs.declared.phase.Phase.{Phase as ClientPhase}
use Rattle.client_node.specs.Phases as client_phases
use Rattle.client_serving.specs.Packets as serving
use Rattle.core_world.specs.AnyNode.{any_step}
use Rattle.core_world.specs.declared.any_node.AnyNode.{AnyNode}
use Rattle.core_world.specs.declared.any_node.AnyNode.TheVariants as any
use Rattle.log_owner.specs.Opening as opening
use Rattle.manager_node.specs.declared.phase.Phase.TheVariants as managing
use Rattle.manager_node.specs.declared.phase.Phase.{Phase as ManagerPhase}
use Rattle.manager_node.specs.Events as managers
use Rattle.manager_serving.specs.Serving as manager_serving
use Rattle.node_base.specs.declared.peers.Peers.{Peers}
use Rattle.registry_node.specs.Events as registries
use Rattle.store_nodes.specs.ServerEvents as servers
use Rattle.wire_msg.specs.declared.packet.Do.TheVariants.{Deliver}
use Rattle.wire_msg.specs.declared.packet.Packet.{Packet}
use Rattle.std.specs.Prelude.{ℕ}
use Rattle.quiet_flow.specs.Flow.{unclocked}

client_blind : (capacity : ℕ) (p : ClientPhase) (packet : Packet) → client_phases.on_deliver capacity p packet ≡ client_phases.on_deliver capacity p (unclocked packet)
unfolding client_phases.on_deliver serving.serving_take opening.opening_take
client_blind capacity (clients.Down l) packet = refl
client_blind capacity (clients.Opening l o) packet = refl
client_blind capacity (clients.Serving s) packet = refl

manager_blind : (peers : Peers) (p : ManagerPhase) (packet : Packet) → managers.manager_deliver peers p packet ≡ managers.manager_deliver peers p (unclocked packet)
unfolding managers.manager_deliver manager_serving.serving_hear
manager_blind peers (managing.Down kept) packet = refl
manager_blind peers (managing.Waiting kept hello) packet = refl
manager_blind peers (managing.Serving s) packet = refl

cleaner_blind : (peers : Peers) (p : CleanerPhase) (packet : Packet) → cleaners.on_deliver peers p packet ≡ cleaners.on_deliver peers p (unclocked packet)
unfolding cleaners.on_deliver cleaners.cleaner_hear emptying.on_packet opening.opening_take
cleaner_blind peers (cleaning.Down l) packet = refl
cleaner_blind peers (cleaning.Opening l o) packet = refl
cleaner_blind peers (cleaning.Serving e) packet = refl

pub any_blind : (node : AnyNode) (packet : Packet) → any_step node (Deliver packet) ≡ any_step node (Deliver (unclocked packet))
unfolding servers.on_packet registries.on_packet managers.happens
any_blind (any.Client node) packet = rw (client_blind node.cache node.phase packet) refl
any_blind (any.Manager node) packet = rw (manager_blind node.peers node.phase packet) refl
any_blind (any.Server node) packet = refl
any_blind (any.Cleaner node) packet = rw (cleaner_blind node.peers node.phase packet) refl
any_blind (any.Registry node) packet = refl
