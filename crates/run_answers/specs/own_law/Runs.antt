-- In every run clients act for their items: what one acts of blocks is of the call on files that its open item asks for, or it is the one thing that the answer
-- tells of, directly before the answer.
use Rattle.core_world.specs.declared.any_node.AnyNode.{AnyNode}
use Rattle.world_base.specs.declared.estate.Estate.{Estate}
use Rattle.headline.specs.ItemActs.{ClientsActForItems}

-- ---- runs

-- So it is whatever events a script's world goes through.
abbrev pub EachRunsClientsActForItems : Type 0
EachRunsClientsActForItems = (e : Estate AnyNode) → ClientsActForItems e
