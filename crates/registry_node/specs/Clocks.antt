-- What the registry sends has clock 0.
use Rattle.node_base.specs.Clocks.{clock_0}
use Rattle.wire_msg.specs.declared.packet.Do.{Do}
use Rattle.wire_msg.specs.NodeStep.{HaveNoClock}
use Rattle.xfs_base.specs.declared.node.NodeId.TheVariants.{Registry}
use Rattle.registry_node.specs.declared.node.RegistryNode.{RegistryNode}
use Rattle.registry_node.specs.Events.{registry_step, takes}

pub registry_sends_clock_0 : (node : RegistryNode) (what : Do) → HaveNoClock (registry_step node what).packets
registry_sends_clock_0 node what = clock_0 Registry (takes node what).outs
