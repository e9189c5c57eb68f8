-- At each tick what isn't acknowledged is said again.
use Rattle.core_world.specs.declared.any_node.AnyNode.{AnyNode}
use Rattle.world_base.specs.declared.estate.Estate.{Estate}
use Rattle.headline.specs.Repeats.{EachIsRepeated, RepeatsInTime}

abbrev pub EachTickRepeats : Type 0
EachTickRepeats = (node : AnyNode) → RepeatsInTime node

-- So it is whatever events a script's world goes through.
abbrev pub EachRunRepeats : Type 0
EachRunRepeats = (e : Estate AnyNode) → EachIsRepeated e
