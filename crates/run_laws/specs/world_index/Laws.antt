-- Where blocks lie, in every run of the nodes to whose events it is given what they are owed.
use Rattle.std.specs.Prelude.{◌≡◌, ◌<◌, ℕ, Some, slice_get}
use Rattle.core_world.specs.AnyNode.{any_start, any_step}
use Rattle.core_world.specs.declared.any_node.AnyNode.{AnyNode}
use Rattle.headline.specs.Filed.{AreTexts, Filed, Texts}
use Rattle.headline.specs.Indexes.{KeepsBy}
use Rattle.node_base.specs.Setups.{IsSetup}
use Rattle.node_slots.specs.node_tie.RegistryEvents.{RegistrySound}
use Rattle.segment_format.specs.declared.segment.Segment.{Segment}
use Rattle.world_base.specs.Cluster.{cluster_of}
use Rattle.world_base.specs.declared.cluster.Cluster.{Cluster}
use Rattle.world_base.specs.declared.estate.Estate.{Estate}
use Rattle.world_base.specs.declared.event.Event.{Event}
use Rattle.world_base.specs.declared.world.World.{World}
use Rattle.world_base.specs.Events.{node_of, what_of}
use Rattle.world_base.specs.Runs.{IsRun}
use Rattle.run_laws.specs.world_index.Owes.{IndexOwes}
use Rattle.run_laws.specs.world_index.Standing.{Scene, Stands}
use Rattle.headline.specs.Moments.{moment, node_named}
use Rattle.xfs_base.specs.Limits.{slot_count}

-- ---- what is given

module _ (e : Estate AnyNode) (part : ℕ) (texts : Texts) (first : ℕ → ℕ → Segment) where
  abbrev pub its_cluster : Cluster
  its_cluster = cluster_of e.script.setup

  -- Each event of a run is given what it is owed, wherever the moment before it stands to the small world of the slot's index.
  abbrev pub AllOwed : Type 0
  AllOwed =
      (count : ℕ) (event : Event) (s : Scene) (node : AnyNode) → slice_get e.events count ≡ Some event
      → Stands its_cluster part texts first (moment e count).nodes (moment e count).sent RegistrySound s
      → node_named (moment e count) (node_of event) ≡ Some node
      → IndexOwes part texts s.asked s.net (node_of event) node (what_of event)

-- ---- what follows

-- so it is by some table, of texts of their names
pub record KeepsIndexes (w : World AnyNode) (part : ℕ) (texts : Texts) : Type 0 where
  pub filed : Filed
  pub named : AreTexts texts filed
  pub keeps : KeepsBy w part filed

-- So it is at each moment of each run of a script of whose setup a run can be started, where its events are given what they are owed.
abbrev pub EveryRunKeepsIndexes : Type 0
EveryRunKeepsIndexes =
    (e : Estate AnyNode) → IsSetup e.script.setup → IsRun any_step any_start e.script e.events e.world → (part : ℕ) → part < slot_count → (texts : Texts)
    (first : ℕ → ℕ → Segment) → AllOwed e part texts first → (count : ℕ) → KeepsIndexes (moment e count) part texts
