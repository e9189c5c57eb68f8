-- What a client says is lost while it reads a block for its open call was torn, in the words of a run of the nodes.
use Rattle.std.specs.Prelude.{◌≡◌, ◌⊎◌, ◌<◌, ◌≤◌, ℕ, Some, slice_get}
use Rattle.client_serving.specs.declared.serving.Serving.{Serving}
use Rattle.core_world.specs.AnyNode.{any_start, any_step}
use Rattle.core_world.specs.declared.any_node.AnyNode.{AnyNode}
use Rattle.headline.specs.Reads.{ToldTorn, WasTornInRead, serving_at}
use Rattle.node_base.specs.Setups.{IsSetup}
use Rattle.headline.specs.Restarts.{NoDoubtfulRestart}
use Rattle.token_protocol.specs.Basics.{In}
use Rattle.version_model.specs.declared.act.Act.TheVariants as act
use Rattle.world_base.specs.declared.estate.Estate.{Estate}
use Rattle.world_base.specs.declared.event.Event.{Event}
use Rattle.world_base.specs.Events.{node_of, what_of}
use Rattle.world_base.specs.Runs.{IsRun}
use Rattle.headline.specs.Moments.{acts_in, moment}
use Rattle.xfs_base.specs.declared.node.NodeId.TheVariants as nodes
use Rattle.xfs_base.specs.declared.segment.SegName.{SegName}

module _ (e : Estate AnyNode) where
  -- what a client says is lost while it serves, at a moment up to which no restart that ended was doubtful: a manager told it so, in the epoch that the
  -- client has promised, and it was torn when that manager read it, while it took the slot over in that epoch; or it was torn while the client's open call
  -- read it
  abbrev pub ReadLosesWhatIsTorn : ℕ → Type 0
  ReadLosesWhatIsTorn c =
      (count : ℕ) → NoDoubtfulRestart e count → (event : Event) → slice_get e.events count ≡ Some event → nodes.Client c ≡ node_of event
      → (s : Serving) → serving_at e c count ≡ Some s
      → (name : SegName) → In (act.Lost (nodes.Client c) name) (acts_in (moment e count) event)
      → ToldTorn e c s count (what_of event) name ⊎ WasTornInRead e c count name

-- so it is of each client of a run
abbrev pub ReadLossesEarned : Estate AnyNode → Type 0
ReadLossesEarned e = (c : ℕ) → 0 < c → c ≤ e.script.setup.clients → ReadLosesWhatIsTorn e c

-- So it is in each run of a script of whose setup a run can be started.
abbrev pub ReadsLoseWhatIsTorn : Type 0
ReadsLoseWhatIsTorn = (e : Estate AnyNode) → IsSetup e.script.setup → IsRun any_step any_start e.script e.events e.world → ReadLossesEarned e
