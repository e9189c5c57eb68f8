-- The state of a client's tokens.
use Rattle.std.specs.Prelude.{ℕ, Bool, ◌&&◌, ◌==◌, List, [], map, slice_index, unwrap_or}
use Rattle.std.specs.Map.{lookup, remove_entry, keys_of}
use Rattle.std.specs.BTreeMap.{is_at, insert_entry}
use Rattle.std.specs.List.{filter}
use Rattle.xfs_base.specs.declared.block.BlockId.{BlockId}
use Rattle.xfs_base.specs.declared.token.Mode.{Mode}
use Rattle.xfs_base.specs.Blocks.{block_cmp, slot_of}
use Rattle.xfs_base.specs.Modes.{is_held}
use Rattle.token_client.specs.declared.held.Held.{Held}
use Rattle.token_client.specs.Held.{held_new, is_dirty}

-- the incarnation of the client, the promised epoch of each slot, the number of the last want, and what
-- is known of each block, by block
pub record TokensState : Type 0 where
  pub inc : ℕ
  pub epochs : List ℕ
  pub req : ℕ
  pub blocks : List (BlockId × Held)

-- nothing was asked, and nothing is known of any block
abbrev pub tokens_start : ℕ → List ℕ → TokensState
tokens_start inc epochs = record { inc = inc; epochs = epochs; req = 0; blocks = [] }

-- what is known of a block
abbrev pub held_of : List (BlockId × Held) → BlockId → Held
held_of blocks block = unwrap_or (lookup (is_at (block_cmp block)) blocks) held_new

-- the blocks, with this known of one
abbrev pub put_held : List (BlockId × Held) → BlockId → Held → List (BlockId × Held)
put_held blocks block h = insert_entry block_cmp (remove_entry (is_at (block_cmp block)) blocks) block h

-- the state, with this known of a block
abbrev pub with_held : TokensState → BlockId → Held → TokensState
with_held s block h = record s { blocks = put_held s.blocks block h }

-- the promised epoch of a slot
abbrev pub epoch_of : List ℕ → ℕ → ℕ
epoch_of epochs slot = slice_index epochs slot

-- whether a block is of a slot
abbrev pub is_in_slot : ℕ → BlockId → Bool
is_in_slot slot block = slot_of block.ino.0 == slot

-- the blocks of a slot that are held, each with its mode
abbrev pub held_in : ℕ → List (BlockId × Held) → List (BlockId × Mode)
held_in slot blocks = map (λ e. (e.0, e.1.mode)) (filter (λ e. is_in_slot slot e.0 && is_held e.1.mode) blocks)

-- the blocks whose newest version isn't settled
abbrev pub dirty_in : List (BlockId × Held) → List BlockId
dirty_in blocks = keys_of (filter (λ e. is_dirty e.1) blocks)
