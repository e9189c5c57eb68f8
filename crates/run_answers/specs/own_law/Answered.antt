-- An item that asks for one call on blocks, or for a call on files, and is answered by it, has run whole by then.
use Rattle.core_world.specs.declared.any_node.AnyNode.{AnyNode}
use Rattle.world_base.specs.declared.estate.Estate.{Estate}
use Rattle.headline.specs.ItemActs.{CallsAreAnswered}

abbrev pub EachCallIsAnswered : Type 0
EachCallIsAnswered = (e : Estate AnyNode) → CallsAreAnswered e
