-- Managers, servers and the registry answer no item that a segment is lost; servers and the registry say of none that it is.
use Rattle.manager_node.specs.declared.manager.Manager.{Manager}
use Rattle.manager_node.specs.Events.{happens}
use Rattle.manager_node.specs.Phases.{lasting_of}
use Rattle.node_base.specs.declared.effects.Effect.TheVariants.{Lose}
use Rattle.registry_node.specs.declared.node.RegistryNode.{RegistryNode}
use Rattle.registry_node.specs.Events as registry
use Rattle.store_nodes.specs.declared.server.Server.{Server}
use Rattle.store_nodes.specs.ServerEvents as server
use Rattle.token_protocol.specs.Basics.{In}
use Rattle.version_model.specs.declared.answer.Answer.{Answer}
use Rattle.version_model.specs.declared.answer.Answer.TheVariants as answer
use Rattle.wire_msg.specs.declared.packet.Do.{Do}
use Rattle.xfs_base.specs.declared.node.NodeId.TheVariants as nodes
use Rattle.xfs_base.specs.declared.segment.SegName.{SegName}
use Rattle.serving_moves.proofs.item_moves.Managers.{manager_turned}
use Rattle.serving_moves.proofs.item_moves.Reading.{event_tells}
use Rattle.serving_moves.proofs.item_moves.Registries.{registry_turned}
use Rattle.serving_moves.proofs.item_moves.Servers.{server_turned}
use Rattle.serving_moves.specs.item_moves.Moves.{IsCount, IsNone, IsPrompt, IsRebuilt}
use Rattle.serving_moves.specs.item_moves.Moves.Losses.{Silent, Telling}
use Rattle.run_losses.proofs.answer_law.Events.{event_plain}
use Rattle.run_losses.proofs.answer_law.Telling.{AllPlain, none_lost}
use Rattle.run_losses.specs.answer_law.Calls.{NotLost}
use Rattle.run_losses.specs.answer_law.Runs.{OthersSayNone}

count_not_lost : (a : Answer) → IsCount a → NotLost a
count_not_lost (answer.Lost name) so = so
count_not_lost _ so = tt

rebuilt_not_lost : (a : Answer) → IsRebuilt a → NotLost a
rebuilt_not_lost (answer.Lost name) so = so
rebuilt_not_lost _ so = tt

pub manager_plain : (m : Manager) (what : Do) → AllPlain (happens m what).outs
manager_plain m what =
    event_plain Telling IsCount count_not_lost (lasting_of m.phase).items what (λ may. may) (lasting_of (happens m what).state).items (happens m what).outs
    (manager_turned m what).event

pub server_plain : (v : Server) (what : Do) → AllPlain (server.takes v what).outs
server_plain v what =
    event_plain Silent IsRebuilt rebuilt_not_lost v.items what (λ may. may) (server.takes v what).state.items (server.takes v what).outs
    (server_turned v what).event

pub registry_plain : (r : RegistryNode) (what : Do) → AllPlain (registry.takes r what).outs
registry_plain r what =
    event_plain Silent IsNone (λ a none. absurd none) r.items what (λ may. may) (registry.takes r what).state.items (registry.takes r what).outs
    (registry_turned r what).event

pub server_silent : (v : Server) (what : Do) (name : SegName) → In (Lose name) (server.takes v what).outs → ⊥
server_silent v what name among =
    event_tells Silent IsRebuilt IsPrompt name v.items (server.takes v what).state.items what (server.takes v what).outs (server_turned v what).event among

pub registry_silent : (r : RegistryNode) (what : Do) (name : SegName) → In (Lose name) (registry.takes r what).outs → ⊥
registry_silent r what name among =
    event_tells Silent IsNone IsPrompt name r.items (registry.takes r what).state.items what (registry.takes r what).outs (registry_turned r what).event among

pub others_say_none : OthersSayNone
others_say_none = record {
  managers = λ m what. none_lost (nodes.Manager (lasting_of m.phase).number) (happens m what).outs (manager_plain m what);
  servers = λ v what. none_lost (nodes.Server v.number) (server.takes v what).outs (server_plain v what);
  registry = λ r what. none_lost nodes.Registry (registry.takes r what).outs (registry_plain r what);
}
