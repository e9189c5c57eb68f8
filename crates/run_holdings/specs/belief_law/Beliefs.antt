-- What a manager believes of clients, in the words of a run of the nodes: at whatever epoch it manages a slot, the registry's or an earlier one, it believes of
-- each client that serves and has promised that epoch what that holds or reads, and what it would still accept. Until a manager manages the slot at a greater
-- epoch it believes so of each client that serves, whatever that has promised. And once it no longer manages the slot at that epoch, be it deposed or down, the
-- same is so of what it believed at the last moment at which it did. Of a client that has promised a later epoch nothing more is said once one manages the slot
-- at such an epoch: what that client holds it may have of the later manager (the 1996 paper, on cache consistency and on managers).
use Rattle.core_world.specs.AnyNode.{any_start, any_step}
use Rattle.core_world.specs.declared.any_node.AnyNode.{AnyNode}
use Rattle.node_base.specs.Setups.{IsSetup}
use Rattle.world_base.specs.declared.estate.Estate.{Estate}
use Rattle.world_base.specs.Runs.{IsRun}
use Rattle.headline.specs.Beliefs.{BelievedThroughout}

-- ---- by whom

-- So it is in each run of a script of whose setup a run can be started, whatever is lost.
abbrev pub EveryRunsManagersBelieve : Type 0
EveryRunsManagersBelieve = (e : Estate AnyNode) → IsSetup e.script.setup → IsRun any_step any_start e.script e.events e.world → BelievedThroughout e
