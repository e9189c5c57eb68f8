-- Clients that fell: what holds at each moment of a run while such a client isn't back, and that falls are apart.
use Rattle.core_world.specs.AnyNode.{any_start, any_step}
use Rattle.core_world.specs.declared.any_node.AnyNode.{AnyNode}
use Rattle.node_base.specs.Setups.{IsSetup}
use Rattle.world_base.specs.declared.estate.Estate.{Estate}
use Rattle.world_base.specs.Runs.{IsRun}
use Rattle.headline.specs.Falls.{FallsApartThroughout, NobodyHoldsThroughout}

-- So it is of each run of a script of whose setup a run can be started.
abbrev pub NobodyHoldsWhatFell : Type 0
NobodyHoldsWhatFell = (e : Estate AnyNode) → IsSetup e.script.setup → IsRun any_step any_start e.script e.events e.world → NobodyHoldsThroughout e

-- And so it is of each run of a script of whose setup a run can be started.
abbrev pub EveryRunHasFallsApart : Type 0
EveryRunHasFallsApart = (e : Estate AnyNode) → IsSetup e.script.setup → IsRun any_step any_start e.script e.events e.world → FallsApartThroughout e
