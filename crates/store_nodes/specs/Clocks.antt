-- What a server sends has clock 0.
use Rattle.node_base.specs.Clocks.{clock_0}
use Rattle.wire_msg.specs.declared.packet.Do.{Do}
use Rattle.wire_msg.specs.NodeStep.{HaveNoClock}
use Rattle.xfs_base.specs.declared.node.NodeId.TheVariants.{Server}
use Rattle.store_nodes.specs.declared.server.Server.{Server as ServerNode}
use Rattle.store_nodes.specs.ServerEvents.{server_step, takes}

pub server_sends_clock_0 : (node : ServerNode) (what : Do) → HaveNoClock (server_step node what).packets
server_sends_clock_0 node what = clock_0 (Server node.number) (takes node what).outs
