-- The table of blocks: what is known of each block, and that the blocks stay in order, once one is put or
-- all are changed in place.
use Rattle.std.proofs.Common.{◌≡◌, cond, List, map, sym, subst}
use Rattle.std.specs.Ordering.{eq_by_cmp}
use Rattle.std.specs.List.Sorted.{IsStrictlySortedBy}
use Rattle.std.specs.Map.{keys_of}
use Rattle.xfs_base.specs.declared.block.BlockId.{BlockId}
use Rattle.xfs_base.specs.Blocks.{block_cmp}
use Rattle.xfs_base.proofs.BlockOrder.{block_cmp_total, block_cmp_exact}
use Rattle.xfs_base.proofs.Tables.{at-put, at-put_itself, at-changed, keys-changed, sorted_put}
use Rattle.xfs_base.proofs.Tables.{put_each as each_put, put_same as same_put}
use Rattle.token_client.specs.declared.held.Held.{Held}
use Rattle.token_client.specs.Held.{held_new}
use Rattle.token_client.specs.State.{held_of, put_held}

-- what is known of each block once one is put
pub held_of-put : (q k : BlockId) (h : Held) (es : List (BlockId × Held)) → held_of (put_held es k h) q ≡ cond (eq_by_cmp block_cmp q k) h (held_of es q)
held_of-put = at-put block_cmp_total block_cmp_exact held_new

-- what is known of the very block that is put
pub held_of-put_itself : (block : BlockId) (h : Held) (es : List (BlockId × Held)) → held_of (put_held es block h) block ≡ h
held_of-put_itself = at-put_itself block_cmp_total block_cmp_exact held_new

-- what holds of the block that is put, and held of every other, holds of all
pub put_each : (P : BlockId → Held → Type 0) (k : BlockId) (h : Held) (es : List (BlockId × Held)) → P k h → ((q : BlockId) → P q (held_of es q))
    → (q : BlockId) → P q (held_of (put_held es k h) q)
put_each = each_put block_cmp_total block_cmp_exact held_new

-- what the block that is put has as before, each block has as before
pub put_same : {A : Type 0} (f : Held → A) (q k : BlockId) (h : Held) (es : List (BlockId × Held)) → f h ≡ f (held_of es k)
    → f (held_of (put_held es k h) q) ≡ f (held_of es q)
put_same f q k h es same = same_put block_cmp_total block_cmp_exact held_new f q k h es same

-- the blocks stand in order
abbrev pub InOrder : List (BlockId × Held) → Type 0
InOrder es = IsStrictlySortedBy block_cmp (keys_of es)

-- they do once one is put
pub in_order-put : (k : BlockId) (h : Held) (es : List (BlockId × Held)) → InOrder es → InOrder (put_held es k h)
in_order-put = sorted_put block_cmp_total block_cmp_exact held_new

-- and once all are changed in place
pub in_order-changed : (g : BlockId → Held → Held) (es : List (BlockId × Held)) → InOrder es → InOrder (map (λ e. (e.0, g e.0 e.1)) es)
in_order-changed g es sorted = subst (IsStrictlySortedBy block_cmp) (sym (keys-changed block_cmp_total block_cmp_exact held_new g es)) sorted

-- what is known of each block once all are changed in place
pub held_of-changed : (g : BlockId → Held → Held) (q : BlockId) (es : List (BlockId × Held)) → g q held_new ≡ held_new
    → held_of (map (λ e. (e.0, g e.0 e.1)) es) q ≡ g q (held_of es q)
held_of-changed = at-changed block_cmp_total block_cmp_exact held_new
