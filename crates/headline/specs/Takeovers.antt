-- What a manager says is lost while it takes a slot over: it was torn while it was read, or was deleted.
use Rattle.std.specs.Prelude.{◌≡◌, ◌⊎◌, ◌≤◌, ℕ, Option, Some, None}
use Rattle.core_world.specs.declared.any_node.AnyNode.{AnyNode}
use Rattle.core_world.specs.declared.any_node.AnyNode.TheVariants as any
use Rattle.manager_slots.specs.declared.slot_phase.SlotPhase.{SlotPhase}
use Rattle.manager_slots.specs.declared.slot_phase.SlotPhase.TheVariants as phase
use Rattle.manager_slots.specs.declared.slot_phase.Taking.{Taking}
use Rattle.segment_reading.specs.Reading.{ReadingState}
use Rattle.takeover.specs.declared.source.Source.{Source}
use Rattle.takeover.specs.Transition.{target_of}
use Rattle.world_base.specs.declared.estate.Estate.{Estate}
use Rattle.xfs_base.specs.declared.node.NodeId.TheVariants.{Manager}
use Rattle.xfs_base.specs.declared.segment.SegName.{SegName}
use Rattle.xfs_base.specs.declared.segment.SegRef.{SegRef}
use Rattle.headline.specs.Deletions.{Deletes}
use Rattle.headline.specs.Managers.{slot_in}
use Rattle.headline.specs.Moments.{moment, node_named}
use Rattle.headline.specs.Segments.{NotDeleted}
use Rattle.headline.specs.Torn.{IsStoredAs, IsTornAt, WasFiled}

-- what a manager has of a slot; of what is no manager, that it is away
abbrev pub slot_of : ℕ → Option AnyNode → SlotPhase
slot_of slot None = phase.Away 0
slot_of slot (Some (any.Client node)) = phase.Away 0
slot_of slot (Some (any.Manager node)) = slot_in slot node.phase
slot_of slot (Some (any.Server node)) = phase.Away 0
slot_of slot (Some (any.Cleaner node)) = phase.Away 0
slot_of slot (Some (any.Registry node)) = phase.Away 0

-- It is taken over in this epoch, and the takeover reads this segment of a source, a part of the checkpoint or a log from its reported end down, which is read
-- as far down as its low.
pub record Reads (p : SlotPhase) (epoch : ℕ) (segment : SegRef) : Type 0 where
  pub taking : Taking
  pub takes : p ≡ phase.Taking taking
  pub of_epoch : taking.epoch ≡ epoch
  pub source : Source
  pub reading : ReadingState
  pub present : taking.take.present ≡ Some (record { source = source; reading = Some reading })
  pub looks : reading.target ≡ target_of source
  pub of_segment : source.seg ≡ segment
  pub above : source.low ≤ segment.name.seq

module _ (e : Estate AnyNode) (j : ℕ) where
  -- what manager j has of a slot at a moment
  abbrev pub slot_at : ℕ → ℕ → SlotPhase
  slot_at slot count = slot_of slot (node_named (moment e count) (Manager j))

  -- The name is that of a segment that the manager reads, where it takes a slot over in an epoch; and at a moment from which on it read that segment, in this
  -- epoch, the segment was torn, or servers have been told to delete it.
  pub record WasTornOrDeleted (count : ℕ) (name : SegName) : Type 0 where
    pub slot : ℕ
    pub epoch : ℕ
    pub segment : SegRef
    pub named : name ≡ segment.name
    pub when : ℕ
    pub before : when ≤ count
    pub reads : (k : ℕ) → when ≤ k → k ≤ count → Reads (slot_at slot k) epoch segment
    pub lost : IsTornAt e when segment ⊎ Deletes segment.name (moment e count).sent

-- The name is that of a segment that the manager reads while it takes a slot over in an epoch; and at a moment from which on it read that segment, in this
-- epoch, the segment had been filed, and was torn then, or servers have been told to delete it. Where it was torn and no server had been told to delete it,
-- more members of its group had lost their disk than the parity makes good.
pub record WasFiledAndLost (e : Estate AnyNode) (j count : ℕ) (name : SegName) : Type 0 where
  pub lost : WasTornOrDeleted e j count name
  pub filed : WasFiled e lost.when lost.segment.name
  pub stored : NotDeleted (moment e lost.when) lost.segment.name → IsStoredAs e lost.when lost.segment
