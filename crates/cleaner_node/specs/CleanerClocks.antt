-- What the cleaner sends has clock 0.
use Rattle.node_base.specs.Clocks.{clock_0}
use Rattle.wire_msg.specs.declared.packet.Do.{Do}
use Rattle.wire_msg.specs.NodeStep.{HaveNoClock}
use Rattle.xfs_base.specs.declared.node.NodeId.TheVariants.{Cleaner as TheCleaner}
use Rattle.cleaner_node.specs.declared.cleaner.Cleaner.{Cleaner}
use Rattle.cleaner_node.specs.CleanerEvents.{cleaner_step, takes}

pub cleaner_sends_clock_0 : (cleaner : Cleaner) (what : Do) → HaveNoClock (cleaner_step cleaner what).packets
cleaner_sends_clock_0 cleaner what = clock_0 TheCleaner (takes cleaner.peers cleaner.phase what).outs
