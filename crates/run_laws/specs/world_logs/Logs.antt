-- Logs of clients, of the cleaner and of managers: what holds at each moment of a run of the segments that their owners told to be filed, and of all that is
-- held or sent under a name.
use Rattle.core_world.specs.AnyNode.{any_start, any_step}
use Rattle.core_world.specs.declared.any_node.AnyNode.{AnyNode}
use Rattle.node_base.specs.Setups.{IsSetup}
use Rattle.world_base.specs.declared.estate.Estate.{Estate}
use Rattle.world_base.specs.Runs.{IsRun}
use Rattle.headline.specs.Segments.{CleanersLogStands, LogsStand, ManagersLogsStand}

-- ---- at each moment

-- so it is of each run of a script of whose setup a run can be started, after doubtful restarts too
abbrev pub RunsKeepLogs : Type 0
RunsKeepLogs = (e : Estate AnyNode) → IsSetup e.script.setup → IsRun any_step any_start e.script e.events e.world → LogsStand e

abbrev pub RunsKeepTheCleanersLog : Type 0
RunsKeepTheCleanersLog = (e : Estate AnyNode) → IsSetup e.script.setup → IsRun any_step any_start e.script e.events e.world → CleanersLogStands e

abbrev pub RunsKeepManagersLogs : Type 0
RunsKeepManagersLogs = (e : Estate AnyNode) → IsSetup e.script.setup → IsRun any_step any_start e.script e.events e.world → ManagersLogsStand e
