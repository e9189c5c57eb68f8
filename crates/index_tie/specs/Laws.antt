-- What the index comes to, in the words of the machines: entries are joins, their places are exact, and cleaning loses nothing.
use Rattle.std.specs.Prelude.{◌≡◌, ℕ, ◌<◌, ◌≤◌, Some}
use Rattle.xfs_base.specs.declared.block.BlockId.{BlockId}
use Rattle.xfs_base.specs.declared.entry.Entry.{Entry}
use Rattle.xfs_base.specs.declared.entry.Place.{Place}
use Rattle.token_manager.specs.SlotState.{SlotState}
use Rattle.token_manager.specs.Transition.{entry_at}
use Rattle.log_protocol.specs.IndexState.{IndexState}
use Rattle.log_protocol.specs.IndexLaws.{IndexReached}
use Rattle.index_tie.specs.Filed.{IsFiled, Tells, Names}
use Rattle.headline.specs.Filed.{Filed, row_at}
use Rattle.log_protocol.specs.IndexState as index
use Rattle.index_tie.specs.Slots.{Manages}
use Rattle.headline.specs.Indexes.{IsJoinOfApplied, IsNewest}

-- The index of each active slot is the join of what it has applied.
abbrev pub IndexesAreJoins : Type 0
IndexesAreJoins =
    (b : BlockId) (f : Filed) (w : IndexState) (s : SlotState) → IndexReached w → IsFiled f → Tells b f w → Manages b f w s → IsJoinOfApplied b f s

-- the place of an entry names the log and the seq of its row, and the segment that was filed there
pub record IsExact (f : Filed) (named : index.Entry) (place : Place) : Type 0 where
  pub log : place.seg.name.log.0 ≡ named.log
  pub seq : place.seg.name.seq ≡ named.seq
  pub name : place.seg.name ≡ (f.segment named.log named.seq).name
  pub group : place.seg.group ≡ (f.segment named.log named.seq).group
  pub some : 0 < named.seq
  pub filed : named.seq ≤ f.head named.log

-- Places are exact.
abbrev pub PlacesAreExact : Type 0
PlacesAreExact =
    (b : BlockId) (f : Filed) (entry : Entry) (named : index.Entry) (place : Place) → IsFiled f → Names b f entry named → entry.place ≡ Some place
    → IsExact f named place

-- a newer version of the block is filed
pub record IsOutdated (b : BlockId) (f : Filed) (entry : Entry) : Type 0 where
  pub log : ℕ
  pub seq : ℕ
  pub newer : entry.ver < (row_at f b log seq).ver

-- What was dropped is outdated: where a slot's entry lies in a segment whose row was dropped, and a Dead of it was counted at an epoch up to the slot's, a
-- newer version is filed.
abbrev pub DroppedIsOutdated : Type 0
DroppedIsOutdated =
    (b : BlockId) (f : Filed) (w : IndexState) (s : SlotState) (place : Place) → IndexReached w → IsFiled f → Tells b f w → Manages b f w s
    → (entry_at s b).place ≡ Some place
    → w.dropped place.seg.name.log.0 place.seg.name.seq ≡ 1 → w.dead_at place.seg.name.log.0 place.seg.name.seq ≤ s.epoch → IsOutdated b f (entry_at s b)

-- Cleaning loses nothing: the newest row was not dropped.
abbrev pub NewestIsKept : Type 0
NewestIsKept = (b : BlockId) (f : Filed) (w : IndexState) (l q : ℕ) → IndexReached w → IsFiled f → Tells b f w → IsNewest b f l q → w.dropped l q ≡ 1 → ⊥
