-- In every run each read is of the newest version, up to each moment up to which no restart was doubtful: there the acts of the run are legal, so that each
-- read answers the newest version of its block, with its value, and no client loses what was read elsewhere or synced.
use Rattle.core_world.specs.AnyNode.{any_start, any_step}
use Rattle.core_world.specs.declared.any_node.AnyNode.{AnyNode}
use Rattle.node_base.specs.Setups.{IsSetup}
use Rattle.world_base.specs.declared.estate.Estate.{Estate}
use Rattle.world_base.specs.Runs.{IsRun}
use Rattle.headline.specs.Versions.{LegalActs, LegalWithoutLosses}

-- so they are in each run of a script of whose setup a run can be started, whatever messages are lost, repeated or reordered and whichever nodes stop
abbrev pub EveryRunsActsAreLegal : Type 0
EveryRunsActsAreLegal = (e : Estate AnyNode) → IsSetup e.script.setup → IsRun any_step any_start e.script e.events e.world → LegalActs e

-- so they are in each such run of a script of whose setup a run can be started
abbrev pub EveryRunWithoutLossesIsLegal : Type 0
EveryRunWithoutLossesIsLegal = (e : Estate AnyNode) → IsSetup e.script.setup → IsRun any_step any_start e.script e.events e.world → LegalWithoutLosses e
