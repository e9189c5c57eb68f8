-- What a reopening says is lost was torn, in the words of a run of the nodes.
use Rattle.std.specs.Prelude.{◌≡◌, ℕ, false, true, Some, is_some, slice_get}
use Rattle.core_world.specs.AnyNode.{any_start, any_step}
use Rattle.core_world.specs.declared.any_node.AnyNode.{AnyNode}
use Rattle.node_base.specs.Setups.{IsSetup}
use Rattle.token_protocol.specs.Basics.{In}
use Rattle.version_model.specs.declared.act.Act.TheVariants as act
use Rattle.world_base.specs.declared.estate.Estate.{Estate}
use Rattle.world_base.specs.declared.event.Event.{Event}
use Rattle.world_base.specs.Events.{node_of}
use Rattle.world_base.specs.Runs.{IsRun}
use Rattle.headline.specs.Moments.{acts_in, moment}
use Rattle.headline.specs.Logs.{IsThere, Role, owner_by, renews}
use Rattle.xfs_base.specs.declared.segment.SegName.{SegName}
use Rattle.headline.specs.Openings.{WasTornInOpening, scan_at}

-- ---- owners that open their log

module _ (e : Estate AnyNode) where
  -- what a client, or the cleaner, says is lost while it opens its log
  abbrev pub OpeningLosesWhatIsTorn : Role → Type 0
  OpeningLosesWhatIsTorn r =
      (count : ℕ) (event : Event) → slice_get e.events count ≡ Some event → owner_by r ≡ node_of event → is_some (scan_at e r count) ≡ true
      → (name : SegName) → In (act.Lost (owner_by r) name) (acts_in (moment e count) event) → WasTornInOpening e r count name

-- what any client of a run, or the cleaner, says is lost while it opens its log was torn
abbrev pub ReopeningLossesEarned : Estate AnyNode → Type 0
ReopeningLossesEarned e = (r : Role) → IsThere e.script.setup.clients e.script.setup.managers r → renews r ≡ false → OpeningLosesWhatIsTorn e r

-- So it is in each run of a script of whose setup a run can be started.
abbrev pub ReopeningsLoseWhatIsTorn : Type 0
ReopeningsLoseWhatIsTorn =
    (e : Estate AnyNode) → IsSetup e.script.setup → IsRun any_step any_start e.script e.events e.world → ReopeningLossesEarned e
