-- Lists of rows: what is found in told rows is told, and so are they once a told row is put in or merged, and so are those of pages and segments.
use Rattle.std.proofs.Common.{◌≡◌, ℕ, ◌==◌, true, List, [], ◌∷◌, Option, Some, map, filter, refl, sym, subst, unwrap_or}
use Rattle.std.specs.List.{AllByRecursion, filter_map, flat_map}
use Rattle.std.specs.declared.cmp.Ordering.{Ordering}
use Rattle.std.specs.declared.cmp.Ordering.TheVariants.{Less, Equal, Greater}
use Rattle.std.specs.Ordering.{match_ordering}
use Rattle.std.specs.Map.{lookup}
use Rattle.std.specs.BTreeMap.{is_at, insert_entry}
use Rattle.std.proofs.lemmas.Map.Views.{tells_apart}
use Rattle.delta_index.specs.Entries.{no_entry, is_newer}
use Rattle.delta_index.specs.Index.{entry_of, merged, merged_all}
use Rattle.index_pages.specs.declared.layout.Page.{Page}
use Rattle.index_pages.specs.Layout.{blocks_on}
use Rattle.index_pages.specs.Pages.{row_of, held, rows_on}
use Rattle.segment_format.specs.declared.segment.Item.{Item}
use Rattle.segment_format.specs.declared.segment.Item.TheVariants.{Block, Delta, Part}
use Rattle.segment_format.specs.declared.segment.Segment.{Segment}
use Rattle.segment_format.specs.Rows as segments
use Rattle.slot_beliefs.specs.Index.{Indexed, block_index_merge, merge_all}
use Rattle.takeover.specs.Rows.{is_of, part_rows, told_of}
use Rattle.takeover.specs.Transition.{rows_join}
use Rattle.xfs_base.proofs.BlockOrder.{block_cmp_exact}
use Rattle.xfs_base.proofs.Booleans.{by_test}
use Rattle.xfs_base.specs.Blocks.{block_cmp}
use Rattle.xfs_base.specs.declared.block.BlockId.{BlockId}
use Rattle.xfs_base.specs.declared.entry.Entry.{Entry}
use Rattle.xfs_base.proofs.Alls.{all_append, all_filter, all_map}
use Rattle.node_tellings.specs.entry_tie.ManagerTells.{PartTold}
use Rattle.node_tellings.specs.entry_tie.Told.{Told, RowTold, RowsTold}
use Rattle.node_tellings.proofs.entry_tie.Told.{AllowsNothing}

module _ (told : Told) where
  abbrev Rows : Type 0
  Rows = List (BlockId × Entry)

  -- ---- what is found

  found_here : (block : BlockId) (row : BlockId × Entry) → is_at (block_cmp block) row.0 ≡ true → RowTold told row → told block row.1
  found_here block row same fact = subst (λ b. told b row.1) (sym (tells_apart block_cmp_exact block row.0 same)) fact

  pub entry_told : AllowsNothing told → (rows : Rows) (block : BlockId) → RowsTold told rows → told block (entry_of rows block)
  entry_told nothing [] block all = nothing block
  entry_told nothing (row ∷ rows) block all =
      by_test (λ (o : Option Entry). told block (unwrap_or o no_entry)) (is_at (block_cmp block) row.0) (Some row.1) (lookup (is_at (block_cmp block)) rows)
      (λ t. found_here block row t all.0) (λ t. entry_told nothing rows block all.1)

  looked_up : (rows : Rows) (block : BlockId) → RowsTold told rows → RowsTold told (row_of block (lookup (is_at (block_cmp block)) rows))
  looked_up [] block all = tt
  looked_up (row ∷ rows) block all =
      by_test (λ (o : Option Entry). RowsTold told (row_of block o)) (is_at (block_cmp block) row.0) (Some row.1) (lookup (is_at (block_cmp block)) rows)
      (λ t. (found_here block row t all.0, tt)) (λ t. looked_up rows block all.1)

  held_told : (rows : Rows) (blocks : List BlockId) → RowsTold told rows → RowsTold told (held rows blocks)
  held_told rows [] all = tt
  held_told rows (b ∷ bs) all =
      all_append (RowTold told) (row_of b (lookup (is_at (block_cmp b)) rows)) (held rows bs) (looked_up rows b all) (held_told rows bs all)

  -- what was put on each of these pages
  pub pages_told : (rows : Rows) (pages : List Page) → RowsTold told rows → AllByRecursion (RowsTold told) (map (rows_on rows) pages)
  pages_told rows pages all = all_map (RowsTold told) (rows_on rows) (λ page. held_told rows (blocks_on page.first) all) pages

  -- ---- what is put in

  put_in : (o : Ordering) (block : BlockId) (entry : Entry) (row : BlockId × Entry) (rows rest : Rows) → block_cmp block row.0 ≡ o → told block entry
      → RowTold told row → RowsTold told rows → RowsTold told rest
      → RowsTold told (match_ordering o ((block, entry) ∷ row ∷ rows) ((row.0, entry) ∷ rows) (row ∷ rest))
  put_in Less block entry row rows rest fact new here all more = (new, (here, all))
  put_in Equal block entry row rows rest fact new here all more = (subst (λ b. told b entry) (block_cmp_exact block row.0 fact) new, all)
  put_in Greater block entry row rows rest fact new here all more = (here, more)

  inserted_told : (rows : Rows) (block : BlockId) (entry : Entry) → RowsTold told rows → told block entry
      → RowsTold told (insert_entry block_cmp rows block entry)
  inserted_told [] block entry all new = (new, tt)
  inserted_told (row ∷ rows) block entry all new =
      put_in (block_cmp block row.0) block entry row rows (insert_entry block_cmp rows block entry) refl new all.0 all.1
      (inserted_told rows block entry all.1 new)

  merged_told : (rows : Rows) (block : BlockId) (entry : Entry) → RowsTold told rows → told block entry → RowsTold told (merged rows block entry)
  unfolding merged
  merged_told rows block entry all new =
      by_test (RowsTold told) (is_newer entry (entry_of rows block)) (insert_entry block_cmp rows block entry) rows
      (λ t. inserted_told rows block entry all new)
      (λ t. all)

  all_merged : (rows more : Rows) → RowsTold told rows → RowsTold told more → RowsTold told (merged_all rows more)
  all_merged rows [] all new = all
  all_merged rows (m ∷ ms) all new = all_merged (merged rows m.0 m.1) ms (merged_told rows m.0 m.1 all new.0) new.1

  -- the rows of a chain of segments
  pub joined_told : (index : Rows) (chain : List Rows) → RowsTold told index → AllByRecursion (RowsTold told) chain → RowsTold told (rows_join index chain)
  joined_told index [] all new = all
  joined_told index (rows ∷ chain) all new = joined_told (merged_all index rows) chain (all_merged index rows all new.0) new.1

  -- the index of a slot
  pub indexed_told : (i : Indexed) (rows : Rows) → RowsTold told i.rows → RowsTold told rows → RowsTold told (merge_all i rows).rows
  unfolding block_index_merge
  indexed_told i [] all new = all
  indexed_told i (m ∷ ms) all new = indexed_told (block_index_merge i m) ms (merged_told i.rows m.0 m.1 all new.0) new.1

  -- ---- segments of Parts alone

  part_told : (slot : ℕ) (item : Item) → PartTold told item → RowsTold told (part_rows slot item)
  part_told slot (Block block value) fact = absurd fact
  part_told slot (Delta block ver hop item) fact = absurd fact
  part_told slot (Part of rows) fact = by_test (RowsTold told) (of == slot) rows [] (λ t. fact) (λ t. tt)

  parts_told : (slot : ℕ) (items : List Item) → AllByRecursion (PartTold told) items → RowsTold told (flat_map (part_rows slot) items)
  parts_told slot [] all = tt
  parts_told slot (i ∷ rest) all =
      all_append (RowTold told) (part_rows slot i) (flat_map (part_rows slot) rest) (part_told slot i all.0) (parts_told slot rest all.1)

  no_deltas : (s : Segment) (items : List Item) → AllByRecursion (PartTold told) items → RowsTold told (filter_map (segments.row_of s) items)
  no_deltas s [] all = tt
  no_deltas s (Block block value ∷ rest) all = absurd all.0
  no_deltas s (Delta block ver hop item ∷ rest) all = absurd all.0
  no_deltas s (Part of rows ∷ rest) all = no_deltas s rest all.1

  -- a segment of Parts alone, whose rows are told, says of each slot what is told
  pub segment_told : (slot : ℕ) (s : Segment) → AllByRecursion (PartTold told) s.items → RowsTold told (told_of slot s)
  segment_told slot s all =
      all_append (RowTold told) (flat_map (part_rows slot) s.items) (filter (is_of slot) (segments.rows_of s)) (parts_told slot s.items all)
      (all_filter (RowTold told) (is_of slot) (segments.rows_of s) (no_deltas s s.items all))
