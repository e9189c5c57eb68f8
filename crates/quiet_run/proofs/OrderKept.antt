-- What a client knows of blocks stays in the order of blocks while a segment settles.
use Rattle.std.proofs.Common.{◌&&◌, Bool, true, false, cond, not, ℕ, List, [], ◌∷◌, drop, take, fold}
use Rattle.coop_cache.specs.Transition.{excess, used_last}
use Rattle.token_client.proofs.Tables.{InOrder, in_order-put}
use Rattle.token_client.specs.declared.held.Held.{Held}
use Rattle.token_client.specs.Held.{is_dirty, is_settled_by, let_go, may_evict, version_settled}
use Rattle.token_client.specs.State.{held_of, put_held}
use Rattle.xfs_base.specs.declared.block.BlockId.{BlockId}
use Rattle.xfs_base.specs.declared.entry.Entry.{Entry}
use Rattle.xfs_base.specs.Modes.{is_held}
use Rattle.quiet_nodes.proofs.Settling.{Known, all_settled, comes_in, leaves, row_comes_in, row_settles}

put_or_not : (b : BlockId) (h : Held) (bs : List (BlockId × Held)) (t : Bool) → InOrder bs → InOrder (cond t (put_held bs b h) bs)
put_or_not b h bs true ordered = in_order-put b h bs ordered
put_or_not b h bs false ordered = ordered

fold_keeps : {X : Type 0} (on : Known → X → Known) → ((k : Known) (x : X) → InOrder k.blocks → InOrder (on k x).blocks) → (xs : List X) (k : Known)
    → InOrder k.blocks → InOrder (fold on k xs).blocks
fold_keeps on keeps [] k ordered = ordered
fold_keeps on keeps (x ∷ xs) k ordered = fold_keeps on keeps xs (on k x) (keeps k x ordered)

settles_keeps : (k : Known) (row : BlockId × Entry) → InOrder k.blocks → InOrder (row_settles k row).blocks
settles_keeps k row =
    put_or_not row.0 (version_settled (held_of k.blocks row.0) row.1.ver) k.blocks (is_settled_by (held_of k.blocks row.0) row.1.ver)

leaves_keeps : (k : Known) (b : BlockId) → InOrder k.blocks → InOrder (leaves k b).blocks
leaves_keeps k b = put_or_not b (let_go (held_of k.blocks b)) k.blocks (may_evict (held_of k.blocks b))

module _ (capacity : ℕ) where
  comes_keeps : (k : Known) (row : BlockId × Entry) → InOrder k.blocks → InOrder (row_comes_in capacity k row).blocks
  comes_keeps k row ordered =
      elim (not (is_dirty (held_of k.blocks row.0)) && is_held (held_of k.blocks row.0).mode) as (λ t. InOrder (cond t (comes_in capacity k row.0) k).blocks) [
        | true ↦ fold_keeps leaves leaves_keeps (take (excess capacity (used_last row.0 k.cached)) (used_last row.0 k.cached))
            (record k { cached = drop (excess capacity (used_last row.0 k.cached)) (used_last row.0 k.cached) }) ordered
        | false ↦ ordered
      ]

  pub settled_ordered : (k : Known) (rows : List (BlockId × Entry)) → InOrder k.blocks → InOrder (all_settled capacity k rows).blocks
  settled_ordered k rows ordered =
      fold_keeps (row_comes_in capacity) comes_keeps rows (fold row_settles k rows) (fold_keeps row_settles settles_keeps rows k ordered)
