-- What is settled of each block: the join of all that logs filed of it. Where nobody has the block dirty, and no client fell with it that isn't back, that is the
-- newest version, with its value; and where a client has it dirty, it is the version that the client knows as settled (the 1996 paper, on cache consistency and on
-- recovery).
use Rattle.std.specs.List.{flat_map, range_with_len}
use Rattle.std.specs.Prelude.{◌≡◌, ◌<◌, ℕ, true, false, List, Option, Some, None}
use Rattle.client_call.specs.Reads.{value_at}
use Rattle.core_world.specs.declared.any_node.AnyNode.{AnyNode}
use Rattle.delta_index.specs.Join.{join}
use Rattle.segment_format.specs.declared.segment.Segment.{Segment}
use Rattle.token_client.specs.Held.{is_dirty}
use Rattle.token_client.specs.State.{TokensState, held_of}
use Rattle.version_model.specs.History.{Content}
use Rattle.world_base.specs.declared.estate.Estate.{Estate}
use Rattle.world_base.specs.declared.world.World.{World}
use Rattle.xfs_base.specs.Blocks.{slot_of}
use Rattle.xfs_base.specs.declared.block.BlockId.{BlockId}
use Rattle.xfs_base.specs.declared.entry.Entry.{Entry}
use Rattle.xfs_base.specs.declared.entry.Place.{Place}
use Rattle.xfs_base.specs.declared.segment.SegName.{SegName}
use Rattle.xfs_base.specs.Limits.{block_logs, slot_count}
use Rattle.headline.specs.Falls.{HasFallen}
use Rattle.headline.specs.Filed.{AreTexts, Filed, IsOwnTable, rows_between}
use Rattle.headline.specs.Moments.{moment}
use Rattle.headline.specs.Owners.{tokens_at}
use Rattle.headline.specs.Restarts.{NoDoubtfulRestart}
use Rattle.headline.specs.Versions.{IsNewest, OwnsFrom, history_at}

-- what a log filed of blocks, in the order of its numbers
abbrev pub rows_of_log : Filed → ℕ → List (BlockId × Entry)
rows_of_log f l = rows_between f l 1 (f.head l)

-- what the logs of clients, and the cleaner's, the ninth, filed of blocks
abbrev pub all_rows : Filed → List (BlockId × Entry)
all_rows f = flat_map (rows_of_log f) (range_with_len 1 block_logs)

-- the newest row of a block, the first of equal ones; no entry, of version 0, where nothing is filed of it
abbrev pub settled_entry : Filed → BlockId → Entry
settled_entry f b = join (all_rows f) b

-- what lies at a place, in the segment that was filed there; without a place a block is absent
abbrev pub lies_at : Filed → Option Place → Content
lies_at f None = None
lies_at f (Some place) = value_at (f.segment place.seg.name.log.0 place.seg.name.seq) place.item

-- no client that serves has the block dirty
abbrev pub NobodyHasDirty : World AnyNode → BlockId → Type 0
NobodyHasDirty w b = (c : ℕ) (t : TokensState) → tokens_at w c ≡ Some t → is_dirty (held_of t.blocks b) ≡ false

-- no client fell with the block that isn't back
abbrev pub NobodyFell : World AnyNode → BlockId → Type 0
NobodyFell w b = (c : ℕ) → HasFallen w b c → ⊥

module _ (w : World AnyNode) (part : ℕ) (f : Filed) where
  -- what nobody has changed since is settled: its join is the newest version, and lies where that version's value is
  abbrev pub CleanBlocksAreSettled : Type 0
  CleanBlocksAreSettled =
      (b : BlockId) → slot_of b.ino.0 ≡ part → NobodyHasDirty w b → NobodyFell w b
      → IsNewest (history_at w b) (settled_entry f b).ver (lies_at f (settled_entry f b).place)

  -- of what a client has dirty the join is what it knows as settled; its own version is the newest, and all above the settled one are its
  pub record SettledBelow (b : BlockId) (c : ℕ) (t : TokensState) : Type 0 where
    pub settled : (settled_entry f b).ver ≡ (held_of t.blocks b).settled
    pub owns : OwnsFrom (history_at w b) c (held_of t.blocks b).settled (held_of t.blocks b).ver

  abbrev pub DirtyBlocksAreSettledBelow : Type 0
  DirtyBlocksAreSettledBelow =
      (b : BlockId) (c : ℕ) (t : TokensState) → slot_of b.ino.0 ≡ part → tokens_at w c ≡ Some t → is_dirty (held_of t.blocks b) ≡ true → SettledBelow b c t

-- So it is by the run's own table, of these texts.
pub record IsSettledAt (e : Estate AnyNode) (text : SegName → Segment) (count part : ℕ) : Type 0 where
  pub filed : Filed
  pub own : IsOwnTable e count filed
  pub named : AreTexts text filed
  pub clean : CleanBlocksAreSettled (moment e count) part filed
  pub dirty : DirtyBlocksAreSettledBelow (moment e count) part filed

-- Of each slot, at each moment up to which no restart that ended was doubtful; one text stands under a name throughout the run.
pub record BlocksAreSettled (e : Estate AnyNode) : Type 0 where
  pub text : SegName → Segment
  pub each : (count : ℕ) → NoDoubtfulRestart e count → (part : ℕ) → part < slot_count → IsSettledAt e text count part
