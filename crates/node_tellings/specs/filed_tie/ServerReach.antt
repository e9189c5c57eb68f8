-- A storage server tells nothing of what was filed.
use Rattle.store_nodes.specs.declared.server.Server.{Server}
use Rattle.store_nodes.specs.ServerEvents.{server_step}
use Rattle.node_tellings.specs.filed_tie.Reach.{Reach, EventsTellFiled, EventsTellNoMore}

-- it holds nothing of it either
abbrev pub ServerReaches : Reach → Server → Type 0
ServerReaches reach server = Unit {0}

-- whatever happens to a server
abbrev pub ServersTellFiled : Type 0
ServersTellFiled = EventsTellFiled Server ServerReaches server_step

-- and whatever it acts itself
abbrev pub ServersTellNoMore : Type 0
ServersTellNoMore = EventsTellNoMore Server ServerReaches server_step
