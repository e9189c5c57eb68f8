-- What a client has acted of blocks since an item began is one stretch of the item's call, over all events since.
use Rattle.core_world.specs.declared.any_node.AnyNode.{AnyNode}
use Rattle.world_base.specs.declared.estate.Estate.{Estate}
use Rattle.headline.specs.ItemActs.{CallsGoOn, OpenCallsHaveRun}

abbrev pub EachCallHasRun : Type 0
EachCallHasRun = (e : Estate AnyNode) → OpenCallsHaveRun e × CallsGoOn e
