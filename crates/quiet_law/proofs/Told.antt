-- What a segment tells of blocks: of each block that waited its newest version; and a slot that has merged it is as calm as before.
use Rattle.std.proofs.Common.{◌≡◌, ℕ, zero, suc, ◌+◌, ◌-◌, ◌*◌, ◌≤◌, ◌||◌, true, false, cond, List, [], ◌∷◌, ◌++◌, length, filter_map, slice_set, unwrap_or, Option, Some, None, refl, sym, ap, subst, ◌∙◌, arith}
use Rattle.std.proofs.lemmas.Map.Views.{tells_apart}
use Rattle.std.specs.BTreeMap.{insert_entry, is_at}
use Rattle.std.specs.declared.cmp.Ordering.{Ordering}
use Rattle.std.specs.declared.cmp.Ordering.TheVariants.{Less, Equal, Greater}
use Rattle.std.specs.List.{AllByRecursion, list_any}
use Rattle.std.specs.Map.{lookup}
use Rattle.std.specs.Ordering.{eq_by_cmp, match_ordering}
use Rattle.delta_index.specs.Entries.{is_newer, no_entry}
use Rattle.delta_index.specs.Index.{entry_of, merged}
use Rattle.log_flight.specs.declared.dirty.Change.{Change}
use Rattle.log_flight.specs.Items.{change_items, items_of}
use Rattle.segment_format.specs.declared.segment.Item.{Item}
use Rattle.segment_format.specs.declared.segment.Segment.{Segment}
use Rattle.segment_format.specs.Rows.{row_of}
use Rattle.slot_beliefs.proofs.Counting.{keeps-counted-all}
use Rattle.slot_beliefs.specs.Index.{Indexed, block_index_merge, merge_all}
use Rattle.token_client.specs.declared.held.Held.{Held}
use Rattle.token_client.specs.State.{held_of}
use Rattle.token_manager.specs.SlotState.{SlotState}
use Rattle.token_manager.specs.Transition.{with_deltas}
use Rattle.xfs_base.proofs.BlockOrder.{block_cmp_exact, block_cmp_total, lookup-insert_entry}
use Rattle.xfs_base.proofs.Booleans.{by_test}
use Rattle.xfs_base.specs.Blocks.{block_cmp, same_block}
use Rattle.xfs_base.specs.declared.block.BlockId.{BlockId}
use Rattle.xfs_base.specs.declared.entry.Entry.{Entry}
use Rattle.xfs_base.specs.declared.segment.LogId.{LogId}
use Rattle.xfs_base.specs.declared.setup.Setup.{Setup}
use Rattle.quiet_law.specs.Drained.{IsCalm, IsLow, IsNewest}
use Rattle.quiet_law.proofs.Settled.{AreNewest}

module _ (s : Segment) where
  module _ (blocks : List (BlockId × Held)) where
    one_newest : (before : ℕ) (b : BlockId) (entry : Entry) (value : Option (List ℕ)) (rest : List Item) → entry.ver ≡ (held_of blocks b).ver
        → AreNewest blocks (filter_map (row_of s) rest)
        → AreNewest blocks (filter_map (row_of s) (change_items before b (record { entry = entry; value = value }) ++ rest))
    one_newest before b entry None rest newest all = (newest, all)
    one_newest before b entry (Some bytes) rest newest all = (newest, all)

    pub rows_newest : (before : ℕ) (cs : List (BlockId × Change)) → AllByRecursion (IsNewest blocks) cs
        → AreNewest blocks (filter_map (row_of s) (items_of before cs))
    rows_newest before [] all = tt
    rows_newest before (c ∷ cs) all =
        one_newest before c.0 c.1.entry c.1.value _ all.0.0 (rows_newest (before + length (change_items before c.0 c.1)) cs all.1)

  module _ (x : BlockId) where
    one_named : (before : ℕ) (b : BlockId) (entry : Entry) (value : Option (List ℕ)) (rest : List Item)
        → list_any (λ (row : BlockId × Entry). same_block x row.0) (filter_map (row_of s) (change_items before b (record { entry = entry; value = value }) ++ rest))
        ≡ (same_block x b || list_any (λ (row : BlockId × Entry). same_block x row.0) (filter_map (row_of s) rest))
    one_named before b entry None rest = refl
    one_named before b entry (Some bytes) rest = refl

    -- they name just the blocks that waited
    pub rows_named : (before : ℕ) (cs : List (BlockId × Change))
        → list_any (λ (row : BlockId × Entry). same_block x row.0) (filter_map (row_of s) (items_of before cs))
        ≡ list_any (λ (e : BlockId × Change). same_block x e.0) cs
    rows_named before [] = refl
    rows_named before (c ∷ cs) =
        one_named before c.0 c.1.entry c.1.value _
        ∙ ap (λ t. same_block x c.0 || t) (rows_named (before + length (change_items before c.0 c.1)) cs)

-- ---- the index

inserted : (b : BlockId) (entry : Entry) (rows : List (BlockId × Entry)) → length (insert_entry block_cmp rows b entry) ≤ length rows + 1
inserted b entry [] = omega arith
inserted b entry (r ∷ rows) = by (block_cmp b r.0) (inserted b entry rows)
  where
    by : (o : Ordering) → length (insert_entry block_cmp rows b entry) ≤ length rows + 1
        → length (match_ordering o ((b, entry) ∷ r ∷ rows) ((r.0, entry) ∷ rows) (r ∷ insert_entry block_cmp rows b entry)) ≤ suc (length rows) + 1
    by Less h = omega arith
    by Equal h = omega arith
    by Greater h = omega arith

merged_length : (rows : List (BlockId × Entry)) (b : BlockId) (entry : Entry) → length (merged rows b entry) ≤ length rows + 1
unfolding merged
merged_length rows b entry =
    elim (is_newer entry (entry_of rows b)) as (λ t. length (cond t (insert_entry block_cmp rows b entry) rows) ≤ length rows + 1)
    [ true ↦ inserted b entry rows | false ↦ omega arith ]

chained : (a b c d : ℕ) → a ≤ b + c → b ≤ d + 1 → a ≤ d + suc c
chained a b c d h g = omega arith

-- there are no more rows than there were and come
pub indexed_length : (rows : List (BlockId × Entry)) (i : Indexed) → length (merge_all i rows).rows ≤ length i.rows + length rows
unfolding block_index_merge
indexed_length [] i = omega arith
indexed_length (m ∷ ms) i =
    chained (length (merge_all (block_index_merge i m) ms).rows) (length (merged i.rows m.0 m.1)) (length ms) (length i.rows) (indexed_length ms (block_index_merge i m))
    (merged_length i.rows m.0 m.1)

-- what holds of each entry, and of each row that comes, holds of each entry then
module _ (P : BlockId → Entry → Type 0) where
  abbrev OfEach : List (BlockId × Entry) → Type 0
  OfEach rows = (b : BlockId) → P b (entry_of rows b)

  merged_each : (rows : List (BlockId × Entry)) (k : BlockId) (entry : Entry) → P k entry → OfEach rows → OfEach (merged rows k entry)
  unfolding merged
  merged_each rows k entry here all b =
      elim (is_newer entry (entry_of rows k)) as (λ t. P b (entry_of (cond t (insert_entry block_cmp rows k entry) rows) b)) [
        | true ↦ subst (λ o. P b (unwrap_or o no_entry)) (sym (lookup-insert_entry block_cmp_total b k entry rows))
            (by_test (λ (o : Option Entry). P b (unwrap_or o no_entry)) (eq_by_cmp block_cmp b k) (Some entry) (lookup (is_at (block_cmp b)) rows)
            (λ same. subst (λ x. P x entry) (sym (tells_apart block_cmp_exact b k same)) here) (λ _. all b))
        | false ↦ all b
      ]

  pub indexed_each : (rows : List (BlockId × Entry)) (i : Indexed) → AllByRecursion (λ (row : BlockId × Entry). P row.0 row.1) rows → OfEach i.rows
      → OfEach (merge_all i rows).rows
  unfolding block_index_merge
  indexed_each [] i each all = all
  indexed_each (m ∷ ms) i each all = indexed_each ms (block_index_merge i m) each.1 (merged_each i.rows m.0 m.1 each.0 all)

set_length : (xs : List ℕ) (n v : ℕ) → length (slice_set xs n v) ≡ length xs
set_length [] n v = refl
set_length (x ∷ xs) zero v = refl
set_length (x ∷ xs) (suc n) v = ap suc (set_length xs n v)

-- a slot that has merged at most 24 rows is calm
pub calm_told : (setup : Setup) (k : ℕ) (z : SlotState) (log : LogId) (upto : ℕ) (rows : List (BlockId × Entry)) → IsCalm setup k z → length rows ≤ 24
    → AllByRecursion (λ (row : BlockId × Entry). row.1.ver ≤ 64 * suc k) rows → IsCalm setup (suc k) (with_deltas z log upto rows)
calm_told setup k z log upto rows calm few low = record {
  epoch = calm.epoch;
  jobs = calm.jobs;
  alone = calm.alone;
  believed = calm.believed;
  ordered = calm.ordered;
  applied = set_length z.applied (log.0 - 1) upto ∙ calm.applied;
  counted = keeps-counted-all z.index rows calm.counted;
  rows_low = more (length (merge_all z.index rows).rows) (length z.index.rows) (length rows) (indexed_length rows z.index) calm.rows_low few;
  turn_low = up z.turn calm.turn_low;
  versions_low = indexed_each (λ b e. e.ver ≤ 64 * suc k) rows z.index low (λ b. up (entry_of z.index.rows b).ver (calm.versions_low b));
}
  where
    up : (n : ℕ) → IsLow k n → IsLow (suc k) n
    up n h = omega arith

    more : (now before new : ℕ) → now ≤ before + new → IsLow k before → new ≤ 24 → IsLow (suc k) now
    more now before new h low few = omega arith
