-- What a client's open call reads had been filed, and is stored, in the words of a run of the nodes.
use Rattle.std.specs.Prelude.{◌<◌, ◌≤◌, ℕ}
use Rattle.core_world.specs.AnyNode.{any_start, any_step}
use Rattle.core_world.specs.declared.any_node.AnyNode.{AnyNode}
use Rattle.headline.specs.Reads.{ReadsAt}
use Rattle.node_base.specs.Setups.{IsSetup}
use Rattle.headline.specs.Restarts.{NoDoubtfulRestart}
use Rattle.headline.specs.Torn.{IsStoredAs, WasFiled}
use Rattle.world_base.specs.declared.estate.Estate.{Estate}
use Rattle.world_base.specs.Runs.{IsRun}
use Rattle.headline.specs.Moments.{moment}
use Rattle.headline.specs.Segments.{NotDeleted}
use Rattle.xfs_base.specs.declared.segment.SegRef.{SegRef}

-- What the open call of a client reads at a moment up to which no restart that ended was doubtful had been filed by then.
abbrev pub CallsReadWhatWasFiled : Type 0
CallsReadWhatWasFiled =
    (e : Estate AnyNode) → IsSetup e.script.setup → IsRun any_step any_start e.script e.events e.world → (count : ℕ) → NoDoubtfulRestart e count
    → (c : ℕ) → 0 < c → c ≤ e.script.setup.clients → (item : ℕ) (segment : SegRef) → ReadsAt e c count item segment → WasFiled e count segment.name

-- And it is stored then over the group that it is read over, unless a server was told to delete it.
abbrev pub CallsReadWhatIsStored : Type 0
CallsReadWhatIsStored =
    (e : Estate AnyNode) → IsSetup e.script.setup → IsRun any_step any_start e.script e.events e.world → (count : ℕ) → NoDoubtfulRestart e count
    → (c : ℕ) → 0 < c → c ≤ e.script.setup.clients → (item : ℕ) (segment : SegRef) → ReadsAt e c count item segment
    → NotDeleted (moment e count) segment.name → IsStoredAs e count segment
