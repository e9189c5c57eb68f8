-- What was filed is read back, in the words of a run of the nodes: while no more members of its group lack their fragment than the parity makes good, what the
-- others hold joins to the segment's text, which decodes to the segment (the 1996 paper, on RAID).
use Rattle.core_world.specs.AnyNode.{any_start, any_step}
use Rattle.core_world.specs.declared.any_node.AnyNode.{AnyNode}
use Rattle.node_base.specs.Setups.{IsSetup}
use Rattle.world_base.specs.declared.estate.Estate.{Estate}
use Rattle.world_base.specs.Runs.{IsRun}
use Rattle.headline.specs.Stripes.{FiledIsReadBack}

-- ---- in a run

-- So it is in each run of a script of whose setup a run can be started, after doubtful restarts too.
abbrev pub WhatIsFiledIsReadBack : Type 0
WhatIsFiledIsReadBack = (e : Estate AnyNode) → IsSetup e.script.setup → IsRun any_step any_start e.script e.events e.world → FiledIsReadBack e
