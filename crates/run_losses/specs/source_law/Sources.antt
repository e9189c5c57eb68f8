-- What a manager reads while it takes a slot over had been filed and is stored, in the words of a run of the nodes.
use Rattle.std.specs.Prelude.{◌≡◌, ℕ, Some, slice_get}
use Rattle.core_world.specs.AnyNode.{any_start, any_step}
use Rattle.core_world.specs.declared.any_node.AnyNode.{AnyNode}
use Rattle.headline.specs.Torn.{IsStoredAs, WasFiled}
use Rattle.node_base.specs.Setups.{IsSetup}
use Rattle.headline.specs.Restarts.{NoDoubtfulRestart}
use Rattle.headline.specs.Takeovers.{Reads, WasFiledAndLost, slot_at}
use Rattle.token_protocol.specs.Basics.{In}
use Rattle.version_model.specs.declared.act.Act.TheVariants as act
use Rattle.world_base.specs.declared.estate.Estate.{Estate}
use Rattle.world_base.specs.declared.event.Event.{Event}
use Rattle.world_base.specs.Events.{node_of}
use Rattle.world_base.specs.Runs.{IsRun}
use Rattle.headline.specs.Moments.{acts_in, moment}
use Rattle.headline.specs.Logs.{IsThere}
use Rattle.headline.specs.Segments.{NotDeleted}
use Rattle.headline.specs.Logs.Role.{OfManager}
use Rattle.xfs_base.specs.declared.node.NodeId.TheVariants.{Manager}
use Rattle.xfs_base.specs.declared.segment.SegName.{SegName}
use Rattle.xfs_base.specs.declared.segment.SegRef.{SegRef}

-- ---- what is read

-- At each moment of a run up to which no restart that ended was doubtful: what a manager reads then while it takes a slot over, a part of the checkpoint that
-- its news name or a segment of a log, had been filed.
abbrev pub TakeoversReadWhatWasFiled : Type 0
TakeoversReadWhatWasFiled =
    (e : Estate AnyNode) → IsSetup e.script.setup → IsRun any_step any_start e.script e.events e.world → (count : ℕ) → NoDoubtfulRestart e count
    → (j : ℕ) → IsThere e.script.setup.clients e.script.setup.managers (OfManager j) → (slot epoch : ℕ) (ref : SegRef)
    → Reads (slot_at e j slot count) epoch ref → WasFiled e count ref.name

-- It is stored, too, over the group that it is read over, unless a server was told to delete it.
abbrev pub TakeoversReadWhatIsStored : Type 0
TakeoversReadWhatIsStored =
    (e : Estate AnyNode) → IsSetup e.script.setup → IsRun any_step any_start e.script e.events e.world → (count : ℕ) → NoDoubtfulRestart e count
    → (j : ℕ) → IsThere e.script.setup.clients e.script.setup.managers (OfManager j) → (slot epoch : ℕ) (ref : SegRef)
    → Reads (slot_at e j slot count) epoch ref → NotDeleted (moment e count) ref.name → IsStoredAs e count ref

-- ---- what is lost

-- so it is of what a manager says is lost in an event up to which no restart that ended was doubtful
abbrev pub TakeoverLossesFiled : Estate AnyNode → Type 0
TakeoverLossesFiled e =
    (count : ℕ) → NoDoubtfulRestart e count
    → (event : Event) → slice_get e.events count ≡ Some event → (j : ℕ) → IsThere e.script.setup.clients e.script.setup.managers (OfManager j)
    → Manager j ≡ node_of event → (name : SegName) → In (act.Lost (Manager j) name) (acts_in (moment e count) event) → WasFiledAndLost e j count name

-- So it is in each run of a script of whose setup a run can be started.
abbrev pub TakeoversLoseWhatWasFiled : Type 0
TakeoversLoseWhatWasFiled =
    (e : Estate AnyNode) → IsSetup e.script.setup → IsRun any_step any_start e.script e.events e.world → TakeoverLossesFiled e
