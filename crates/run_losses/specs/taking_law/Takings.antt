-- What a manager says is lost while it takes a slot over was torn, or was deleted, in the words of a run of the nodes.
use Rattle.std.specs.Prelude.{◌≡◌, ℕ, Some, slice_get}
use Rattle.core_world.specs.AnyNode.{any_start, any_step}
use Rattle.core_world.specs.declared.any_node.AnyNode.{AnyNode}
use Rattle.node_base.specs.Setups.{IsSetup}
use Rattle.token_protocol.specs.Basics.{In}
use Rattle.version_model.specs.declared.act.Act.TheVariants as act
use Rattle.world_base.specs.declared.estate.Estate.{Estate}
use Rattle.world_base.specs.declared.event.Event.{Event}
use Rattle.world_base.specs.Events.{node_of}
use Rattle.world_base.specs.Runs.{IsRun}
use Rattle.headline.specs.Moments.{acts_in, moment}
use Rattle.headline.specs.Logs.{IsThere}
use Rattle.headline.specs.Logs.Role.{OfManager}
use Rattle.xfs_base.specs.declared.node.NodeId.TheVariants.{Manager}
use Rattle.xfs_base.specs.declared.segment.SegName.{SegName}
use Rattle.headline.specs.Takeovers.{WasTornOrDeleted}

-- ---- what is lost

module _ (e : Estate AnyNode) (j : ℕ) where
  -- so it is of what the manager says is lost, which it says while it takes a slot over
  abbrev pub TakeoverLosesWhatIsTorn : Type 0
  TakeoverLosesWhatIsTorn =
      (count : ℕ) (event : Event) → slice_get e.events count ≡ Some event → Manager j ≡ node_of event → (name : SegName)
      → In (act.Lost (Manager j) name) (acts_in (moment e count) event) → WasTornOrDeleted e j count name

-- what any manager of a run says is lost was torn, or was deleted
abbrev pub TakeoverLossesEarned : Estate AnyNode → Type 0
TakeoverLossesEarned e = (j : ℕ) → IsThere e.script.setup.clients e.script.setup.managers (OfManager j) → TakeoverLosesWhatIsTorn e j

-- So it is in each run of a script of whose setup a run can be started.
abbrev pub TakeoversLoseWhatIsTorn : Type 0
TakeoversLoseWhatIsTorn =
    (e : Estate AnyNode) → IsSetup e.script.setup → IsRun any_step any_start e.script e.events e.world → TakeoverLossesEarned e
