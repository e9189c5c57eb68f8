-- Who says in a run that a segment is lost: only the node that has its turn, and only one that reads.
use Rattle.std.specs.Prelude.{◌≡◌, ℕ, false, true, Some, is_some, slice_get}
use Rattle.client_serving.specs.declared.serving.Serving.{Serving}
use Rattle.core_world.specs.AnyNode.{any_start, any_step}
use Rattle.core_world.specs.declared.any_node.AnyNode.{AnyNode}
use Rattle.headline.specs.Reads.{serving_at}
use Rattle.headline.specs.Openings.{scan_at}
use Rattle.node_base.specs.Setups.{IsSetup}
use Rattle.headline.specs.Moments.{acts_in, moment}
use Rattle.headline.specs.Logs.{IsThere, Role, owner_by, renews}
use Rattle.headline.specs.Logs.Role.{OfClient, OfManager}
use Rattle.token_protocol.specs.Basics.{In}
use Rattle.version_model.specs.declared.act.Act.TheVariants as act
use Rattle.world_base.specs.declared.estate.Estate.{Estate}
use Rattle.world_base.specs.declared.event.Event.{Event}
use Rattle.world_base.specs.Events.{node_of}
use Rattle.world_base.specs.Runs.{IsRun}
use Rattle.xfs_base.specs.declared.node.NodeId.{NodeId}
use Rattle.xfs_base.specs.declared.node.NodeId.TheVariants.{Client, Manager}
use Rattle.xfs_base.specs.declared.segment.SegName.{SegName}

module _ (e : Estate AnyNode) where
  -- a node that reads segments at a moment
  pub data IsReader (count : ℕ) : NodeId → Type 0 where
    -- a client, or the cleaner, that opens its log, and scans it
    Scans : (r : Role) → IsThere e.script.setup.clients e.script.setup.managers r → renews r ≡ false → is_some (scan_at e r count) ≡ true
        → IsReader count (owner_by r)
    -- a client that serves, and whose item waits for its answer
    Serves : (c : ℕ) → IsThere e.script.setup.clients e.script.setup.managers (OfClient c) → (s : Serving) → serving_at e c count ≡ Some s
        → (item : ℕ) → s.lasting.items.unanswered ≡ Some item → IsReader count (Client c)
    -- a manager
    Manages : (j : ℕ) → IsThere e.script.setup.clients e.script.setup.managers (OfManager j) → IsReader count (Manager j)

  -- In each event, what is said to be lost the node of the event says, and it is such a reader.
  abbrev pub ReadersSayLost : Type 0
  ReadersSayLost =
      (count : ℕ) (event : Event) → slice_get e.events count ≡ Some event → (node : NodeId) (name : SegName)
      → In (act.Lost node name) (acts_in (moment e count) event) → (node ≡ node_of event) × IsReader count node

-- So it is in each run of a script of whose setup a run can be started.
abbrev pub OnlyReadersSayLost : Type 0
OnlyReadersSayLost = (e : Estate AnyNode) → IsSetup e.script.setup → IsRun any_step any_start e.script e.events e.world → ReadersSayLost e
