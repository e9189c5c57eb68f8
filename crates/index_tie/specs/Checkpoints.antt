-- What a checkpoint says of the index, and the laws: its parts cover what its horizon passes, they are read as they were written, and it is kept.
use Rattle.std.specs.Prelude.{◌≡◌, ℕ, suc, ◌-◌, ◌<◌, ◌≤◌, ◌&&◌, nat_lt, nat_le, List, [], ◌∷◌, map, slice_index, if◌then◌else◌}
use Rattle.std.specs.List.{AllByRecursion}
use Rattle.xfs_base.specs.declared.block.BlockId.{BlockId}
use Rattle.xfs_base.specs.declared.segment.SegRef.{SegRef}
use Rattle.xfs_base.specs.Limits.{block_logs}
use Rattle.segment_format.specs.declared.segment.Segment.{Segment}
use Rattle.slot_beliefs.specs.Index.{pages_of}
use Rattle.slot_beliefs.specs.Recalls.{applied_of}
use Rattle.takeover.specs.ReadBack.{AreReadBack, told_by_all}
use Rattle.takeover.specs.Rows.{told_of}
use Rattle.takeover.specs.Sources.{part_source}
use Rattle.token_manager.specs.SlotState.{SlotState}
use Rattle.checkpoint.specs.Laws.{Event, rows_in, rows_of_items, nothing_checkpointed, after_event, slot_after, MayCome, AllMayCome}
use Rattle.checkpoint.specs.Laws.Event.{Written}
use Rattle.checkpoint.specs.WriterState.{Rows, items_of}
use Rattle.log_protocol.specs.IndexState.{IndexState}
use Rattle.log_protocol.specs.IndexLaws.{IndexReached}
use Rattle.log_protocol.specs.IndexSteps.{IndexStep, keeps_horizon}
use Rattle.index_tie.specs.Filed.{IsFiled, Tells}
use Rattle.headline.specs.Filed.{Filed}
use Rattle.index_tie.specs.Slots.{Manages}
use Rattle.index_tie.specs.Takeovers.{Covers}
use Rattle.headline.specs.Indexes.{of_log}

-- a horizon begins, in each log, where what the slot has applied ends
abbrev pub IsNext : SlotState → List ℕ → Type 0
IsNext s horizon = (l : ℕ) → 0 < l → l ≤ block_logs → of_log horizon l ≡ suc (applied_of s.applied l)

-- Parts cover: where segments hold the pages that are planned of the slot's index, the parts of the checkpoint tell what the logs filed below the horizon.
abbrev pub PartsCover : Type 0
PartsCover =
    (b : BlockId) (f : Filed) (w : IndexState) (s : SlotState) (holds : SegRef → Rows) (events : List Event) (segments : List SegRef) (horizon : List ℕ)
    → IndexReached w → IsFiled f → Tells b f w → Manages b f w s
    → (slot_after events).pages ≡ pages_of s.index → AllMayCome holds nothing_checkpointed events → MayCome holds (slot_after events) (Written segments)
    → IsNext s horizon
    → Covers b f w horizon (rows_in holds (after_event (slot_after events) (Written segments)).parts)

-- what was read under the name of a part tells of the slot what the part holds
abbrev pub TellsPart : ℕ → (SegRef → Rows) → List SegRef → Segment → Type 0
TellsPart slot holds [] s = Unit {0}
TellsPart slot holds (part ∷ parts) s = (s.name ≡ part.name → told_of slot s ≡ holds part) × TellsPart slot holds parts s

-- Parts are read as they were written: a takeover that read them whole was told what they hold, in their order.
abbrev pub PartsAreRead : Type 0
PartsAreRead =
    (slot : ℕ) (holds : SegRef → Rows) (parts : List SegRef) (chains : List (List Segment)) → AreReadBack (map part_source parts) chains
    → AllByRecursion (AllByRecursion (TellsPart slot holds parts)) chains
    → told_by_all slot chains ≡ rows_in holds parts

-- and a segment that has just parts of the slot tells what its items hold
abbrev pub PartsTellTheirRows : Type 0
PartsTellTheirRows = (slot : ℕ) (pages : List Rows) (s : Segment) → s.items ≡ items_of slot pages → told_of slot s ≡ rows_of_items s.items

-- a horizon, by log: 1 of a number that is none of logs 1 to 9
abbrev pub horizon_seen : List ℕ → ℕ → ℕ
horizon_seen horizon l = if nat_lt 0 l && nat_le l block_logs then slice_index horizon (l - 1) else 1

-- the registry keeps the horizon, and has it for this epoch and all to come
pub record Keeps (w : IndexState) (horizon : List ℕ) : Type 0 where
  pub step : IndexStep w (keeps_horizon w (horizon_seen horizon))
  pub floor : (e l : ℕ) → w.epoch ≤ e → 0 < l → l ≤ block_logs → of_log horizon l ≡ (keeps_horizon w (horizon_seen horizon)).floor e l

-- Checkpoints are kept: a horizon that is nowhere below the kept one, of a checkpoint of the slot's epoch, whose manager has applied what it passes, is kept.
abbrev pub CheckpointsAreKept : Type 0
CheckpointsAreKept =
    (b : BlockId) (f : Filed) (w : IndexState) (horizon : List ℕ) → IndexReached w → IsFiled f → Tells b f w
    → ((l : ℕ) → 0 < l → l ≤ block_logs → w.floor w.epoch l ≤ of_log horizon l)
    → ((l : ℕ) → 0 < l → l ≤ block_logs → of_log horizon l ≤ suc (w.applied w.epoch l)) → Keeps w horizon
