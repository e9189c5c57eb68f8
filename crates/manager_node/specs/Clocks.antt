-- What a manager sends has clock 0.
use Rattle.wire_msg.specs.declared.packet.Do.{Do}
use Rattle.wire_msg.specs.NodeStep.{HaveNoClock}
use Rattle.node_base.specs.Clocks.{clock_0}
use Rattle.xfs_base.specs.declared.node.NodeId.TheVariants.{Manager as AManager}
use Rattle.manager_node.specs.declared.manager.Manager.{Manager}
use Rattle.manager_node.specs.Events.{manager_step, happens}
use Rattle.manager_node.specs.Phases.{lasting_of}

pub manager_sends_clock_0 : (m : Manager) (what : Do) → HaveNoClock (manager_step m what).packets
manager_sends_clock_0 m what = clock_0 (AManager (lasting_of m.phase).number) (happens m what).outs
