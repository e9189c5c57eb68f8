-- That the calls of clients find the versions that blocks have, in every run: what that is, `Changes` of the crate `headline` says.
use Rattle.core_world.specs.AnyNode.{any_start, any_step}
use Rattle.core_world.specs.declared.any_node.AnyNode.{AnyNode}
use Rattle.node_base.specs.Setups.{IsSetup}
use Rattle.world_base.specs.declared.estate.Estate.{Estate}
use Rattle.world_base.specs.Runs.{IsRun}
use Rattle.headline.specs.Changes.{CallsFindVersions}

-- So it is in each run of a script of whose setup a run can be started.
abbrev pub EachRunsCallsFindVersions : Type 0
EachRunsCallsFindVersions = (e : Estate AnyNode) → IsSetup e.script.setup → IsRun any_step any_start e.script e.events e.world → CallsFindVersions e
