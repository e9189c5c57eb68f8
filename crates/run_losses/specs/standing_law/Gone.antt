-- What a client is told is gone had not been deleted: a manager that broke in an epoch never manages its slot in that epoch, so that no checkpoint of the slot
-- moved its horizons on before the client promised a later epoch (the 1996 paper, on the managers' maps and on cleaning).
use Rattle.std.specs.Prelude.{◌≡◌, ℕ, Some, slice_get}
use Rattle.client_serving.specs.declared.serving.Serving.{Serving}
use Rattle.core_world.specs.AnyNode.{any_start, any_step}
use Rattle.core_world.specs.declared.any_node.AnyNode.{AnyNode}
use Rattle.headline.specs.Reads.{BringsGone, ToldTorn, serving_at}
use Rattle.node_base.specs.Setups.{IsSetup}
use Rattle.headline.specs.Restarts.{NoDoubtfulRestart}
use Rattle.token_protocol.specs.Basics.{In}
use Rattle.version_model.specs.declared.act.Act.TheVariants as act
use Rattle.world_base.specs.declared.estate.Estate.{Estate}
use Rattle.world_base.specs.declared.event.Event.{Event}
use Rattle.world_base.specs.Events.{node_of, what_of}
use Rattle.world_base.specs.Runs.{IsRun}
use Rattle.headline.specs.Moments.{acts_in, moment}
use Rattle.xfs_base.specs.declared.node.NodeId.TheVariants.{Client}
use Rattle.xfs_base.specs.declared.segment.SegName.{SegName}

-- So it is where a client that serves says, at an event that brings it a Gone, that the segment that this names is lost, while no restart that ended was
-- doubtful: in each run of a script of whose setup a run can be started.
abbrev pub GonesAreOfWhatStands : Type 0
GonesAreOfWhatStands =
    (e : Estate AnyNode) → IsSetup e.script.setup → IsRun any_step any_start e.script e.events e.world → (count : ℕ) → NoDoubtfulRestart e count
    → (c : ℕ) (event : Event) → slice_get e.events count ≡ Some event → Client c ≡ node_of event → (s : Serving) → serving_at e c count ≡ Some s
    → (name : SegName) → In (act.Lost (Client c) name) (acts_in (moment e count) event) → BringsGone s (what_of event) name
    → ToldTorn e c s count (what_of event) name
