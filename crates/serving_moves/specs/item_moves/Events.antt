-- What each event makes of the items of its node, whichever kind of node it is.
use Rattle.cleaner_node.specs.CleanerEvents as cleaners
use Rattle.cleaner_node.specs.declared.cleaner.Cleaner.{Cleaner}
use Rattle.cleaner_node.specs.declared.cleaner.Phase.{Phase as CleanerPhase}
use Rattle.cleaner_node.specs.declared.cleaner.Phase.TheVariants as cleaner
use Rattle.client_node.specs.declared.client.Client.{Client}
use Rattle.client_node.specs.declared.phase.Phase.{Phase as ClientPhase}
use Rattle.client_node.specs.declared.phase.Phase.TheVariants as client
use Rattle.client_node.specs.Phases as clients
use Rattle.log_owner.specs.declared.opening.Stage.{Stage}
use Rattle.log_owner.specs.declared.opening.Stage.TheVariants as stage
use Rattle.manager_node.specs.declared.manager.Manager.{Manager}
use Rattle.manager_node.specs.Events.{happens}
use Rattle.manager_node.specs.Phases as managers
use Rattle.registry_node.specs.declared.node.RegistryNode.{RegistryNode}
use Rattle.registry_node.specs.Events as registry
use Rattle.store_nodes.specs.declared.server.Server.{Server}
use Rattle.store_nodes.specs.ServerEvents as servers
use Rattle.wire_msg.specs.declared.packet.Do.{Do}
use Rattle.serving_moves.specs.item_moves.Moves.{Event, IsAny, IsCleaners, IsCount, IsNone, IsPrompt, IsRebuilt, Losses}
use Rattle.serving_moves.specs.item_moves.Moves.Losses.{Silent, Telling, Reading, Answering, Returning}

-- ---- what a node may do of segments that are lost

-- an opening, while it scans its log
abbrev pub log_losses : Stage → Losses
log_losses (stage.Scanning s) = Reading
log_losses (stage.Settling s) = Silent

-- one of a client, which acts that it is back as it ends
abbrev pub client_log_losses : Stage → Losses
client_log_losses (stage.Scanning s) = Answering
client_log_losses (stage.Settling s) = Returning

-- a client that opens its log so, or serves
abbrev pub client_losses : ClientPhase → Losses
client_losses (client.Down l) = Silent
client_losses (client.Opening l o) = client_log_losses o.stage
client_losses (client.Serving s) = Answering

-- the cleaner, while it opens its log so
abbrev pub cleaner_losses : CleanerPhase → Losses
cleaner_losses (cleaner.Down l) = Silent
cleaner_losses (cleaner.Opening l o) = log_losses o.stage
cleaner_losses (cleaner.Serving e) = Silent

-- ---- the kinds of nodes

abbrev pub ClientsMoveItems : Type 0
ClientsMoveItems =
    (c : Client) (what : Do)
    → Event (client_losses c.phase) IsAny IsPrompt (clients.lasting_of c.phase).items what (clients.takes c what).outs
    (clients.lasting_of (clients.takes c what).state).items

abbrev pub ManagersMoveItems : Type 0
ManagersMoveItems =
    (m : Manager) (what : Do)
    → Event Telling IsCount IsPrompt (managers.lasting_of m.phase).items what (happens m what).outs (managers.lasting_of (happens m what).state).items

abbrev pub ServersMoveItems : Type 0
ServersMoveItems =
    (v : Server) (what : Do) → Event Silent IsRebuilt IsPrompt v.items what (servers.takes v what).outs (servers.takes v what).state.items

abbrev pub TheCleanerMovesItems : Type 0
TheCleanerMovesItems =
    (c : Cleaner) (what : Do)
    → Event (cleaner_losses c.phase) IsCleaners IsPrompt (cleaners.lasting_of c.phase).items what (cleaners.takes c.peers c.phase what).outs
    (cleaners.lasting_of (cleaners.takes c.peers c.phase what).state).items

abbrev pub TheRegistryMovesItems : Type 0
TheRegistryMovesItems =
    (r : RegistryNode) (what : Do) → Event Silent IsNone IsPrompt r.items what (registry.takes r what).outs (registry.takes r what).state.items
