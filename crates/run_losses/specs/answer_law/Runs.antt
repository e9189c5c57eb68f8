-- An item that is answered that a segment is lost, in a run of the nodes.
use Rattle.cleaner_node.specs.CleanerEvents as cleaning
use Rattle.cleaner_node.specs.CleanerEvents.{cleaner_step}
use Rattle.cleaner_node.specs.declared.cleaner.Cleaner.{Cleaner}
use Rattle.core_world.specs.declared.any_node.AnyNode.{AnyNode}
use Rattle.manager_node.specs.declared.manager.Manager.{Manager}
use Rattle.manager_node.specs.Events.{manager_step}
use Rattle.registry_node.specs.declared.node.RegistryNode.{RegistryNode}
use Rattle.store_nodes.specs.declared.server.Server.{Server}
use Rattle.registry_node.specs.Events.{registry_step}
use Rattle.store_nodes.specs.ServerEvents.{server_step}
use Rattle.wire_msg.specs.declared.packet.Do.{Do}
use Rattle.world_base.specs.declared.estate.Estate.{Estate}
use Rattle.run_losses.specs.answer_law.Answers.{SaysLosses}
use Rattle.headline.specs.Losses.{LostAnswersEarned, NoneIsLost}

-- The cleaner says what is lost before it answers so, in each event.
abbrev pub TheCleanerSays : Type 0
TheCleanerSays =
    (cleaner : Cleaner) (what : Do) → SaysLosses (cleaning.lasting_of cleaner.phase).items what (cleaner_step cleaner what).acts

-- Managers, servers and the registry answer no item so.
pub record OthersSayNone : Type 0 where
  pub managers : (manager : Manager) (what : Do) → NoneIsLost (manager_step manager what).acts
  pub servers : (server : Server) (what : Do) → NoneIsLost (server_step server what).acts
  pub registry : (registry : RegistryNode) (what : Do) → NoneIsLost (registry_step registry what).acts

-- So it is whatever events a script's world goes through.
abbrev pub LostAnswersAreSaid : Type 0
LostAnswersAreSaid = (e : Estate AnyNode) → LostAnswersEarned e
