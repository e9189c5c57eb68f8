-- Which blocks have a version that isn't settled, a want, and a want that can't be counted once more.
use Rattle.std.specs.Prelude.{◌≡◌, Bool, true, false, is_some, List, []}
use Rattle.std.specs.BTreeMap.{is_at}
use Rattle.std.specs.BTreeSet.{insert_key}
use Rattle.std.specs.List.{filter}
use Rattle.std.specs.List.Sorted.{IsStrictlySortedBy}
use Rattle.std.specs.Map.{keys_of}
use Rattle.std.specs.Set.{remove_key}
use Rattle.xfs_base.specs.declared.block.BlockId.{BlockId}
use Rattle.xfs_base.specs.Blocks.{block_cmp}
use Rattle.token_client.specs.declared.held.Held.{Held}
use Rattle.token_client.specs.Held.{is_dirty}
use Rattle.token_client.specs.State.{dirty_in}
use Rattle.token_client.specs.Transition.{is_spent, wanted_blocks}

-- the blocks of each kind, in order
pub record MarksState : Type 0 where
  pub unsettled : List BlockId
  pub wanted : List BlockId
  pub spent : List BlockId

abbrev pub marks_new : MarksState
marks_new = record { unsettled = []; wanted = []; spent = [] }

-- the blocks of which this is so
abbrev pub blocks_where : (Held → Bool) → List (BlockId × Held) → List BlockId
blocks_where p blocks = keys_of (filter (λ e. p e.1) blocks)

-- those of a table
abbrev pub marks_of : List (BlockId × Held) → MarksState
marks_of blocks = record { unsettled = dirty_in blocks; wanted = wanted_blocks blocks; spent = blocks_where (λ h. is_spent h.want) blocks }

-- a block is of the kind, or isn't
abbrev pub mark : Bool → List BlockId → BlockId → List BlockId
mark true blocks block = insert_key block_cmp blocks block
mark false blocks block = remove_key (is_at (block_cmp block)) blocks

-- a block of which this is known
abbrev pub note : MarksState → BlockId → Held → MarksState
note m block h = record {
  unsettled = mark (is_dirty h) m.unsettled block;
  wanted = mark (is_some h.want) m.wanted block;
  spent = mark (is_spent h.want) m.spent block;
}

-- a block of which nothing is known any longer
abbrev pub forget : MarksState → BlockId → MarksState
forget m block = record { unsettled = mark false m.unsettled block; wanted = mark false m.wanted block; spent = mark false m.spent block }

-- a table: the blocks stand in order, and marked are those of which it is so
pub record IsTable (blocks : List (BlockId × Held)) (marks : MarksState) : Type 0 where
  pub in_order : IsStrictlySortedBy block_cmp (keys_of blocks)
  pub marks_are : marks ≡ marks_of blocks
