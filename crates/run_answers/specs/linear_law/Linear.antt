-- That each run is linearizable, block by block, and that no update is lost in it: what that is, `Linear` and `Updates` of the crate `headline` say.
use Rattle.core_world.specs.AnyNode.{any_start, any_step}
use Rattle.core_world.specs.declared.any_node.AnyNode.{AnyNode}
use Rattle.node_base.specs.Setups.{IsSetup}
use Rattle.world_base.specs.declared.estate.Estate.{Estate}
use Rattle.world_base.specs.Runs.{IsRun}
use Rattle.headline.specs.Linear.{IsLinearizable}
use Rattle.headline.specs.Updates.{NoUpdateIsLost}

-- So is each run of a script of whose setup a run can be started.
abbrev pub EachRunIsLinearizable : Type 0
EachRunIsLinearizable = (e : Estate AnyNode) → IsSetup e.script.setup → IsRun any_step any_start e.script e.events e.world → IsLinearizable e

-- And in each the calls lose no update.
abbrev pub EachRunLosesNoUpdate : Type 0
EachRunLosesNoUpdate = (e : Estate AnyNode) → IsSetup e.script.setup → IsRun any_step any_start e.script e.events e.world → NoUpdateIsLost e
