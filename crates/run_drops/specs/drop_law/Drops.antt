-- What servers are told to delete was dropped, and what is dropped servers are told to delete, in the words of a run of the nodes (the 1996 paper, "The Log
-- Cleaner").
use Rattle.core_world.specs.AnyNode.{any_start, any_step}
use Rattle.core_world.specs.declared.any_node.AnyNode.{AnyNode}
use Rattle.node_base.specs.Setups.{IsSetup}
use Rattle.world_base.specs.declared.estate.Estate.{Estate}
use Rattle.world_base.specs.Runs.{IsRun}
use Rattle.headline.specs.Deletions.{DeletesBelowHorizons, DropsWhatItDeletes}

-- So it is of each run of a script of whose setup a run can be started.
abbrev pub EveryRunDropsWhatItDeletes : Type 0
EveryRunDropsWhatItDeletes =
    (e : Estate AnyNode) → IsSetup e.script.setup → IsRun any_step any_start e.script e.events e.world → DropsWhatItDeletes e

abbrev pub EveryRunDeletesBelowHorizons : Type 0
EveryRunDeletesBelowHorizons =
    (e : Estate AnyNode) → IsSetup e.script.setup → IsRun any_step any_start e.script e.events e.world → DeletesBelowHorizons e
