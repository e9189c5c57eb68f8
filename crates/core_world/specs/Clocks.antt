-- What a node of any kind sends has clock 0.
use Rattle.wire_msg.specs.declared.packet.Do.{Do}
use Rattle.wire_msg.specs.NodeStep.{HaveNoClock}
use Rattle.client_node.specs.Clocks.{client_sends_clock_0}
use Rattle.manager_node.specs.Clocks.{manager_sends_clock_0}
use Rattle.cleaner_node.specs.CleanerClocks.{cleaner_sends_clock_0}
use Rattle.registry_node.specs.Clocks.{registry_sends_clock_0}
use Rattle.store_nodes.specs.Clocks.{server_sends_clock_0}
use Rattle.core_world.specs.declared.any_node.AnyNode.{AnyNode}
use Rattle.core_world.specs.declared.any_node.AnyNode.TheVariants.{Client, Manager, Server, Cleaner, Registry}
use Rattle.core_world.specs.AnyNode.{any_step}

pub any_sends_clock_0 : (node : AnyNode) (what : Do) → HaveNoClock (any_step node what).packets
any_sends_clock_0 (Client node) what = client_sends_clock_0 node what
any_sends_clock_0 (Manager node) what = manager_sends_clock_0 node what
any_sends_clock_0 (Server node) what = server_sends_clock_0 node what
any_sends_clock_0 (Cleaner node) what = cleaner_sends_clock_0 node what
any_sends_clock_0 (Registry node) what = registry_sends_clock_0 node what
