-- The registry sends nothing that tells where blocks lie.
use Rattle.std.specs.Prelude.{[]}
use Rattle.std.specs.List.{AllByRecursion}
use Rattle.node_base.specs.declared.effects.Effect.{Effect}
use Rattle.registry.specs.BoardState.{BoardState}
use Rattle.registry_node.specs.declared.node.RegistryNode.{RegistryNode}
use Rattle.registry_node.specs.Events.{registry_step, takes}
use Rattle.wire_msg.specs.declared.packet.Do.{Do}
use Rattle.xfs_base.specs.declared.node.NodeId.TheVariants.{Registry}
use Rattle.node_moves.proofs.registry_moves.Keeping.{event_says}
use Rattle.node_moves.specs.registry_moves.Moves.{Said}
use Rattle.node_moves.specs.registry_moves.Moves.Said.{TellsMaps}
use Rattle.node_tellings.specs.entry_tie.OtherTells.{RegistryTellsNone}
use Rattle.node_tellings.specs.entry_tie.Told.{PacketTold, Told, told_by_rows}
use Rattle.node_tellings.proofs.entry_tie.Frames.{Says, packets_tell}

tells_nothing : (told : Told) (node : RegistryNode) (what : Do) (now : BoardState) (e : Effect) → Said node what now e → Says told [] e
tells_nothing told node what now e (TellsMaps to) = tt
tells_nothing told node what now e _ = tt

-- of any entries that are told
pub any_registry_tells : (told : Told) (node : RegistryNode) (what : Do) → AllByRecursion (PacketTold told) (registry_step node what).packets
any_registry_tells told node what =
    packets_tell told [] Registry (takes node what).outs (event_says node what (Says told []) (tells_nothing told node what))

pub registry_tells : RegistryTellsNone
registry_tells rows node what = any_registry_tells (told_by_rows rows) node what
