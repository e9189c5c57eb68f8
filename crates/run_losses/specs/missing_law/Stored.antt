-- What servers hold of a segment, and what they lost of it, in words of a run of the nodes.
use Rattle.std.specs.Prelude.{ℕ}
use Rattle.core_world.specs.AnyNode.{any_start, any_step}
use Rattle.core_world.specs.declared.any_node.AnyNode.{AnyNode}
use Rattle.node_base.specs.Setups.{IsSetup}
use Rattle.token_protocol.specs.Basics.{In}
use Rattle.headline.specs.Torn.{IsStored}
use Rattle.version_model.specs.declared.act.Act.TheVariants as act
use Rattle.world_base.specs.declared.estate.Estate.{Estate}
use Rattle.world_base.specs.Runs.{IsRun}
use Rattle.headline.specs.Moments.{moment}
use Rattle.headline.specs.Logs.{IsThere, Role, did, log_by}
use Rattle.headline.specs.Segments.{NotDeleted}
use Rattle.xfs_base.specs.declared.segment.SegName.{SegName}

-- So it is of each segment that a client, the cleaner or a manager told to be filed, unless a server was told to delete it.
abbrev pub WhatIsFiledIsStored : Type 0
WhatIsFiledIsStored =
    (e : Estate AnyNode) → IsSetup e.script.setup → IsRun any_step any_start e.script e.events e.world → (r : Role)
    → IsThere e.script.setup.clients e.script.setup.managers r → (count : ℕ) (name : SegName) → In (act.Filed name) (did e (log_by r) count)
    → NotDeleted (moment e count) name → IsStored e count name
