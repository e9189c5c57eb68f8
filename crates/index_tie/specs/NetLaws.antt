-- The laws of every run of the small world.
use Rattle.std.specs.Prelude.{◌≡◌, ℕ, suc, ◌<◌, ◌≤◌, true, List, Some, None}
use Rattle.segment_format.specs.declared.segment.Segment.{Segment}
use Rattle.xfs_base.specs.declared.block.BlockId.{BlockId}
use Rattle.xfs_base.specs.declared.entry.Place.{Place}
use Rattle.xfs_base.specs.declared.segment.SegName.{SegName}
use Rattle.xfs_base.specs.declared.segment.SegRef.{SegRef}
use Rattle.xfs_base.specs.Blocks.{slot_of}
use Rattle.xfs_base.specs.Limits.{block_logs}
use Rattle.checkpoint.specs.WriterState.{Rows}
use Rattle.slot_beliefs.specs.Recalls.{applied_of}
use Rattle.token_manager.specs.SlotState.{SlotState}
use Rattle.token_manager.specs.Transition.{entry_at}
use Rattle.log_protocol.specs.Tables.{In}
use Rattle.headline.specs.Filed.{has_block, is_filed_name}
use Rattle.index_tie.specs.Laws.{IsOutdated}
use Rattle.headline.specs.Indexes.{IsJoinOfApplied, IsNewest, of_log}
use Rattle.index_tie.specs.Net.{Net, Runs, opening}
use Rattle.index_tie.specs.Net.Packet.{CheckpointDone}

-- a moment of a run, and a block of the slot
pub record Moment (part : ℕ) (holds : SegRef → Rows) (n : Net) (b : BlockId) : Type 0 where
  pub any : ℕ → ℕ → Segment
  pub run : Runs part holds (opening any) n
  pub inside : slot_of b.ino.0 ≡ part

-- The index of each active slot, deposed or not, is the join of what it has applied.
abbrev pub EachIndexIsTheJoin : Type 0
EachIndexIsTheJoin =
    (part : ℕ) (holds : SegRef → Rows) (n : Net) (b : BlockId) (e : ℕ) (s : SlotState) → Moment part holds n b → n.slots e ≡ Some s
    → IsJoinOfApplied b n.filed s

-- Each manager, deposed or not, has applied of each log all that the horizon passes that the registry had last kept at its epoch.
abbrev pub ManagersCoverTheirHorizon : Type 0
ManagersCoverTheirHorizon =
    (part : ℕ) (holds : SegRef → Rows) (n : Net) (b : BlockId) (e : ℕ) (s : SlotState) → Moment part holds n b → n.slots e ≡ Some s
    → (l : ℕ) → 0 < l → l ≤ block_logs → of_log (n.horizon e) l ≤ suc (applied_of s.applied l)

-- Cleaning loses nothing: the newest row of a block isn't in a segment that was to be deleted.
abbrev pub NewestIsNeverDeleted : Type 0
NewestIsNeverDeleted =
    (part : ℕ) (holds : SegRef → Rows) (n : Net) (b : BlockId) (name : SegName) → Moment part holds n b → In name n.deleted → is_filed_name n.filed name ≡ true
    → has_block b n.filed name ≡ true
    → IsNewest b n.filed name.log.0 name.seq → ⊥

-- And where the entry of the slot that reigns lies in such a segment, a newer version is filed: it will be told of it.
abbrev pub ReigningIsOutdated : Type 0
ReigningIsOutdated =
    (part : ℕ) (holds : SegRef → Rows) (n : Net) (b : BlockId) (e : ℕ) (s : SlotState) (place : Place) → Moment part holds n b → n.slots e ≡ Some s
    → ((d : ℕ) (t : SlotState) → n.slots d ≡ Some t → d ≤ e) → (entry_at s b).place ≡ Some place
    → In place.seg.name n.deleted → is_filed_name n.filed place.seg.name ≡ true → has_block b n.filed place.seg.name ≡ true
    → IsOutdated b n.filed (entry_at s b)

-- A checkpoint is sent only at an epoch that has a manager.
abbrev pub CheckpointsHaveManagers : Type 0
CheckpointsHaveManagers =
    (part : ℕ) (holds : SegRef → Rows) (n : Net) (b : BlockId) (e : ℕ) (horizon : List ℕ) (parts : List SegRef) → Moment part holds n b
    → In (CheckpointDone e horizon parts) n.sent → n.slots e ≡ None → ⊥

-- A run that exists: a checkpoint of epoch 1 is kept, the slot moves, the cleaner promises and reports, a manager takes the slot over at epoch 2, a client
-- files a version of the block, and the new manager is told of it.
pub record TakenOver : Type 0 where
  pub any : ℕ → ℕ → Segment
  pub holds : SegRef → Rows
  pub net : Net
  pub run : Runs 0 holds (opening any) net
  pub block : BlockId
  pub inside : slot_of block.ino.0 ≡ 0
  pub deposed : SlotState
  pub present : SlotState
  pub was : net.slots 1 ≡ Some deposed
  pub manages : net.slots 2 ≡ Some present
  pub knows_nothing : (entry_at deposed block).ver ≡ 0
  pub knows : (entry_at present block).ver ≡ 1
