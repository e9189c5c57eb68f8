-- Storage servers and the registry tell nothing of where blocks lie.
use Rattle.std.specs.List.{AllByRecursion}
use Rattle.registry_node.specs.declared.node.RegistryNode.{RegistryNode}
use Rattle.store_nodes.specs.declared.server.Server.{Server}
use Rattle.registry_node.specs.Events.{registry_step}
use Rattle.store_nodes.specs.ServerEvents.{server_step}
use Rattle.wire_msg.specs.declared.packet.Do.{Do}
use Rattle.node_tellings.specs.entry_tie.Told.{PacketTold, FiledRows, told_by_rows}

-- whatever happens to a server, and whatever was filed
abbrev pub ServersTellNone : Type 0
ServersTellNone = (rows : FiledRows) (server : Server) (what : Do) → AllByRecursion (PacketTold (told_by_rows rows)) (server_step server what).packets

-- whatever happens to the registry, and whatever was filed
abbrev pub RegistryTellsNone : Type 0
RegistryTellsNone =
    (rows : FiledRows) (registry : RegistryNode) (what : Do) → AllByRecursion (PacketTold (told_by_rows rows)) (registry_step registry what).packets
