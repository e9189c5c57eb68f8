-- What a client sends has clock 0.
use Rattle.wire_msg.specs.declared.packet.Do.{Do}
use Rattle.wire_msg.specs.NodeStep.{HaveNoClock}
use Rattle.node_base.specs.Clocks.{clock_0}
use Rattle.xfs_base.specs.declared.node.NodeId.TheVariants.{Client as AClient}
use Rattle.client_node.specs.declared.client.Client.{Client}
use Rattle.client_node.specs.Phases.{client_step, takes, lasting_of}

pub client_sends_clock_0 : (node : Client) (what : Do) → HaveNoClock (client_step node what).packets
client_sends_clock_0 node what = clock_0 (AClient (lasting_of node.phase).number) (takes node what).outs
