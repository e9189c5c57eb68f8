-- Up to the first doubtful restart, the index of each slot is what logs say: that of each manager that manages the slot, deposed or not, is the join of what it has
-- applied, which of the present one is at least what the kept checkpoint covers, and the newest row of a block is in no segment that a server was told to delete
-- (the 1996 paper, on the imap and on cleaning).
use Rattle.std.specs.Prelude.{◌≡◌, ◌⊎◌, ◌<◌, ◌≤◌, ◌-◌, ℕ, suc, true, false, ◌&&◌, nat_le, nat_lt, if◌then◌else◌, List, Some, slice_index}
use Rattle.core_world.specs.declared.any_node.AnyNode.{AnyNode}
use Rattle.core_world.specs.declared.any_node.AnyNode.TheVariants as any
use Rattle.delta_index.specs.Entries.{HasSameRank, is_newer, no_entry}
use Rattle.registry.specs.BoardState.{BoardState}
use Rattle.registry.specs.Checkpoints.{horizon_at}
use Rattle.registry.specs.Slots.{entry_of}
use Rattle.registry_node.specs.declared.node.RegistryNode.{RegistryNode}
use Rattle.segment_format.specs.declared.segment.Segment.{Segment}
use Rattle.slot_beliefs.specs.Recalls.{applied_of}
use Rattle.token_client.specs.Held.{is_dirty}
use Rattle.token_client.specs.State.{TokensState, held_of}
use Rattle.token_manager.specs.SlotState.{SlotState}
use Rattle.token_manager.specs.Transition.{entry_at}
use Rattle.wire_msg.specs.declared.body.Body.TheVariants as body
use Rattle.wire_msg.specs.declared.packet.Packet.{Packet}
use Rattle.world_base.specs.declared.estate.Estate.{Estate}
use Rattle.world_base.specs.declared.world.World.{World}
use Rattle.world_base.specs.Runs.{WasSent}
use Rattle.xfs_base.specs.Blocks.{slot_of}
use Rattle.xfs_base.specs.declared.block.BlockId.{BlockId}
use Rattle.xfs_base.specs.declared.entry.Entry.{Entry}
use Rattle.xfs_base.specs.declared.node.NodeId.TheVariants.{Cleaner, Registry}
use Rattle.xfs_base.specs.declared.segment.SegName.{SegName}
use Rattle.xfs_base.specs.Limits.{block_logs, slot_count}
use Rattle.headline.specs.Filed.{AreTexts, Filed, IsOwnTable, has_block, is_filed_name, row_at}
use Rattle.headline.specs.Managers.{active_at}
use Rattle.headline.specs.Moments.{moment, node_named}
use Rattle.headline.specs.Owners.{tokens_at}
use Rattle.headline.specs.Restarts.{NoDoubtfulRestart}
use Rattle.headline.specs.Versions.{OwnsFrom, history_at}

-- an entry is a row that the slot has applied, and the earliest of its version and hop
pub record IsAppliedRow (b : BlockId) (f : Filed) (s : SlotState) (entry : Entry) : Type 0 where
  pub log : ℕ
  pub seq : ℕ
  pub some : 0 < log
  pub applied : seq ≤ applied_of s.applied log
  pub is_row : entry ≡ row_at f b log seq
  pub earliest : (l q : ℕ) → 0 < l → q ≤ applied_of s.applied l → HasSameRank (row_at f b l q) entry → seq ≤ q

-- What the index of a slot holds of the block is the join of what the slot has applied: none of it is newer, and it is one of it, or no entry.
pub record IsJoinOfApplied (b : BlockId) (f : Filed) (s : SlotState) : Type 0 where
  pub newest : (l q : ℕ) → 0 < l → q ≤ applied_of s.applied l → is_newer (row_at f b l q) (entry_at s b) ≡ false
  pub one : (entry_at s b ≡ no_entry) ⊎ IsAppliedRow b f s (entry_at s b)

-- a row of the block that no filed one is newer than, and the earliest of its version and hop
pub record IsNewest (b : BlockId) (f : Filed) (l q : ℕ) : Type 0 where
  pub some : 0 < (row_at f b l q).ver
  pub newest : (m r : ℕ) → is_newer (row_at f b m r) (row_at f b l q) ≡ false
  pub earliest : (m r : ℕ) → HasSameRank (row_at f b m r) (row_at f b l q) → q ≤ r

-- what a list by log, from log 1 on, has of a log; 0 of a number that is none of logs 1 to 9
abbrev pub of_log : List ℕ → ℕ → ℕ
of_log numbers l = if nat_lt 0 l && nat_le l block_logs then slice_index numbers (l - 1) else 0

-- the epoch of a slot, its manager, and the incarnation of a manager
abbrev pub epoch_in : BoardState → ℕ → ℕ
epoch_in b part = (entry_of b.entries part).epoch

-- the cleaner had a server delete the segment of this name
pub record WasDeleted (w : World AnyNode) (name : SegName) : Type 0 where
  pub packet : Packet
  pub sent : WasSent w.sent packet
  pub from : packet.from ≡ Cleaner
  pub deletes : packet.body ≡ body.Delete (record { name = name })

-- At a moment of a run, of a slot of the map, by this table of what logs filed up to then:
pub record KeepsBy (w : World AnyNode) (part : ℕ) (filed : Filed) : Type 0 where
  -- the index of each manager that manages the slot, deposed or not, is the join of what it has applied
  pub joins : (j : ℕ) (s : SlotState) (b : BlockId) → active_at w part j ≡ Some s → slot_of b.ino.0 ≡ part → IsJoinOfApplied b filed s
  -- and who manages it at the registry's epoch has applied at least what the checkpoint covers that the registry keeps of it
  pub covers : (registry : RegistryNode) (j : ℕ) (s : SlotState) → node_named w Registry ≡ Some (any.Registry registry) → active_at w part j ≡ Some s
      → s.epoch ≡ epoch_in registry.board part → (l : ℕ) → 0 < l → l ≤ block_logs
      → of_log (horizon_at registry.board.checkpoints part) l ≤ suc (applied_of s.applied l)
  -- and cleaning loses nothing: the newest row of a block isn't in a segment that a server was told to delete
  pub kept : (name : SegName) (b : BlockId) → WasDeleted w name → slot_of b.ino.0 ≡ part → is_filed_name filed name ≡ true → has_block b filed name ≡ true
      → IsNewest b filed name.log.0 name.seq → ⊥

pub record LeadsFiled (w : World AnyNode) (f : Filed) (b : BlockId) (c : ℕ) (t : TokensState) : Type 0 where
  pub settled : (l q : ℕ) → (row_at f b l q).ver ≤ (held_of t.blocks b).settled
  pub owns : OwnsFrom (history_at w b) c (held_of t.blocks b).settled (held_of t.blocks b).ver

-- so it is of each block of a slot that a client that serves has dirty
abbrev pub DirtyBlocksLead : World AnyNode → ℕ → Filed → Type 0
DirtyBlocksLead w part f =
    (b : BlockId) (c : ℕ) (t : TokensState) → slot_of b.ino.0 ≡ part → tokens_at w c ≡ Some t → is_dirty (held_of t.blocks b) ≡ true → LeadsFiled w f b c t

-- So it is in every run, with nothing given: by the run's own table at each moment up to which no restart was doubtful. What is filed under a name is one
-- segment throughout the run, so that none that was filed ever changes.
pub record IndexIsItsOwn (e : Estate AnyNode) (text : SegName → Segment) (count part : ℕ) : Type 0 where
  pub filed : Filed
  pub own : IsOwnTable e count filed
  pub named : AreTexts text filed
  pub keeps : KeepsBy (moment e count) part filed
  -- what a client has dirty leads it
  pub leads : DirtyBlocksLead (moment e count) part filed

pub record IndexesAreItsOwn (e : Estate AnyNode) : Type 0 where
  pub text : SegName → Segment
  pub each : (count : ℕ) → NoDoubtfulRestart e count → (part : ℕ) → part < slot_count → IndexIsItsOwn e text count part
