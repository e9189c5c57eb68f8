-- Rows that fit: what is merged of them, what they hold of a block, what is written of them in pages, and what a segment that fits tells of blocks.
use Rattle.std.proofs.Common.{◌≡◌, ◌<◌, ℕ, ◌^◌, ◌==◌, Bool, false, List, [], ◌∷◌, map, filter, length, Option, Some, None, inl, inr, refl, sym, subst, ◌∙◌, arith}
use Rattle.std.proofs.lemmas.Bool.Decides.{nat_tests}
use Rattle.std.specs.Prelude.{IfSome, unwrap_or, if◌then◌else◌}
use Rattle.std.specs.BTreeMap.{is_at, insert_entry}
use Rattle.std.specs.declared.cmp.Ordering.{Ordering}
use Rattle.std.specs.declared.cmp.Ordering.TheVariants.{Less, Equal, Greater}
use Rattle.std.specs.List.{AllByRecursion, filter_map, flat_map, fold}
use Rattle.std.specs.Map.{lookup}
use Rattle.std.specs.Ordering.{eq_by_cmp, match_ordering}
use Rattle.xfs_base.proofs.BlockOrder.{same_block_exact}
use Rattle.xfs_base.proofs.Booleans.{by_test}
use Rattle.xfs_base.specs.Blocks.{block_cmp}
use Rattle.xfs_base.specs.declared.block.BlockId.{BlockId}
use Rattle.xfs_base.specs.declared.entry.Entry.{Entry}
use Rattle.xfs_base.specs.declared.entry.Place.{Place}
use Rattle.xfs_base.specs.declared.segment.SegRef.{SegRef}
use Rattle.xfs_base.proofs.Alls.{all_append}
use Rattle.segment_format.specs.declared.segment.Item.{Item}
use Rattle.segment_format.specs.declared.segment.Item.TheVariants.{Block, Delta, Part}
use Rattle.segment_format.specs.declared.segment.Segment.{Segment}
use Rattle.segment_format.specs.Ranges.{FitsBlock, FitsItem, FitsPlace, FitsRow, Fits}
use Rattle.segment_format.specs.Rows.{place_of, row_of, rows_of}
use Rattle.segment_format.specs.Rule.{no_item}
use Rattle.delta_index.proofs.JoinAlgebra.{same_block-eq}
use Rattle.delta_index.specs.Entries.{is_newer, no_entry}
use Rattle.delta_index.specs.Index.{entry_of, merged, merged_all}
use Rattle.index_pages.specs.declared.layout.Page.{Page}
use Rattle.index_pages.specs.Layout.{blocks_on}
use Rattle.index_pages.specs.Pages as pages
use Rattle.index_pages.specs.Pages.{PagesState, held, rows_on, all_rows, changed_rows}
use Rattle.checkpoint.specs.declared.plan.Plan.{Plan}
use Rattle.checkpoint.specs.Plan.{writes_all, plan_of}
use Rattle.checkpoint.specs.WriterState.{Rows}
use Rattle.slot_beliefs.specs.Index.{Indexed, block_index_merge, merge_all}
use Rattle.takeover.specs.Rows.{is_of, part_rows, told_of}
use Rattle.token_manager.specs.declared.output.Out.{Out}
use Rattle.token_manager.specs.declared.output.Out.TheVariants.{Live, Dead}
use Rattle.token_manager.specs.Transition.{is_place, found}
use Rattle.node_logs.specs.manager_log_tie.Fitting.{IsRowInRange, PagesFit, RowsFit, RowsInRange}

-- ---- what is merged

inserted_fit : (rows : Rows) (block : BlockId) (entry : Entry) → RowsFit rows → FitsRow (block, entry) → RowsFit (insert_entry block_cmp rows block entry)
inserted_fit [] block entry all new = (new, tt)
inserted_fit (r ∷ rows) block entry all new =
    elim (block_cmp block r.0) as
    (λ (o : Ordering). RowsFit (match_ordering o ((block, entry) ∷ r ∷ rows) ((r.0, entry) ∷ rows) (r ∷ insert_entry block_cmp rows block entry))) [
      | Less ↦ (new, all)
      | Equal ↦ ((all.0.0, new.1, new.2, new.3), all.1)
      | Greater ↦ (all.0, inserted_fit rows block entry all.1 new)
    ]

merged_fit : (rows : Rows) (block : BlockId) (entry : Entry) → RowsFit rows → FitsRow (block, entry) → RowsFit (merged rows block entry)
unfolding merged
merged_fit rows block entry all new =
    by_test RowsFit (is_newer entry (entry_of rows block)) (insert_entry block_cmp rows block entry) rows
    (λ t. inserted_fit rows block entry all new) (λ t. all)

pub all_merged_fit : (rows more : Rows) → RowsFit rows → RowsFit more → RowsFit (merged_all rows more)
all_merged_fit rows [] all new = all
all_merged_fit rows (m ∷ more) all new = all_merged_fit (merged rows m.0 m.1) more (merged_fit rows m.0 m.1 all new.0) new.1

pub all_joined_fit : (rows : Rows) (chain : List Rows) → RowsFit rows → PagesFit chain → RowsFit (fold merged_all rows chain)
all_joined_fit rows [] all new = all
all_joined_fit rows (told ∷ chain) all new = all_joined_fit (merged_all rows told) chain (all_merged_fit rows told all new.0) new.1

-- what tells that nothing is known of a block is newer than nothing
nothing_newer : (e : Entry) → is_newer no_entry e ≡ false
nothing_newer e = grind (arith, nat_tests)

-- so it is not put in
merged_in_range : (rows : Rows) (block : BlockId) (entry : Entry) → RowsFit rows → IsRowInRange (block, entry) → RowsFit (merged rows block entry)
unfolding merged
merged_in_range rows block entry all (inl new) = merged_fit rows block entry all new
merged_in_range rows block entry all (inr none) =
    subst (λ (e : Entry). RowsFit (merged rows block e)) (sym none)
    (subst (λ b. RowsFit (if b then insert_entry block_cmp rows block no_entry else rows)) (sym (nothing_newer (entry_of rows block))) all)

indexed_fit : (i : Indexed) (m : BlockId × Entry) → RowsFit i.rows → IsRowInRange m → RowsFit (block_index_merge i m).rows
unfolding block_index_merge
indexed_fit i m all new = merged_in_range i.rows m.0 m.1 all new

pub all_indexed_fit : (i : Indexed) (more : Rows) → RowsFit i.rows → RowsInRange more → RowsFit (merge_all i more).rows
all_indexed_fit i [] all new = all
all_indexed_fit i (m ∷ more) all new = all_indexed_fit (block_index_merge i m) more (indexed_fit i m all new.0) new.1

-- ---- what is held of a block

-- an entry that is told of a block fits
abbrev pub LiveFits : BlockId → Out → Type 0
LiveFits block (Live entry) = FitsRow (block, entry)
LiveFits block _ = Unit {0}

found_fits : (block : BlockId) (rows : Rows) → RowsFit rows → IfSome (lookup (is_at (block_cmp block)) rows) (λ (e : Entry). FitsRow (block, e))
found_fits block [] all = tt
found_fits block (r ∷ rows) all =
    by_test (λ o. IfSome o (λ (e : Entry). FitsRow (block, e))) (eq_by_cmp block_cmp block r.0) (Some r.1) (lookup (is_at (block_cmp block)) rows)
    (λ t. (subst FitsBlock (same_block_exact block r.0 (sym (same_block-eq block r.0) ∙ t)) all.0.0, all.0.1, all.0.2, all.0.3))
    (λ t. found_fits block rows all.1)

-- what is held of a block, or that nothing is
pub entry_in_range : (rows : Rows) (block : BlockId) → RowsFit rows → IsRowInRange (block, entry_of rows block)
entry_in_range rows block all = by (lookup (is_at (block_cmp block)) rows) (found_fits block rows all)
  where
    by : (o : Option Entry) → IfSome o (λ (e : Entry). FitsRow (block, e)) → IsRowInRange (block, unwrap_or o no_entry)
    by None h = inr refl
    by (Some e) h = inl h

-- rows that fit are in range
pub rows_in_range : (rows : Rows) → RowsFit rows → RowsInRange rows
rows_in_range [] all = tt
rows_in_range (r ∷ rows) all = (inl all.0, rows_in_range rows all.1)

-- what is held of a block, if it lies somewhere
pub placed_fits : (block : BlockId) (place : Place) (rows : Rows) → RowsFit rows → LiveFits block (found (entry_of rows block) place)
placed_fits block place rows all = by (lookup (is_at (block_cmp block)) rows) (found_fits block rows all)
  where
    by : (o : Option Entry) → IfSome o (λ (e : Entry). FitsRow (block, e)) → LiveFits block (found (unwrap_or o no_entry) place)
    by None h = tt
    by (Some e) h = by_test (LiveFits block) (is_place e.place place) (Live e) Dead (λ t. h) (λ t. tt)

-- ---- what is written in pages

row_fits : (block : BlockId) (o : Option Entry) → IfSome o (λ (e : Entry). FitsRow (block, e)) → RowsFit (pages.row_of block o)
row_fits block None h = tt
row_fits block (Some entry) h = (h, tt)

held_fit : (rows : Rows) (blocks : List BlockId) → RowsFit rows → RowsFit (held rows blocks)
held_fit rows [] all = tt
held_fit rows (block ∷ blocks) all =
    all_append FitsRow (pages.row_of block (lookup (is_at (block_cmp block)) rows)) (held rows blocks)
    (row_fits block (lookup (is_at (block_cmp block)) rows) (found_fits block rows all)) (held_fit rows blocks all)

pages_fit : (rows : Rows) (ps : List Page) → RowsFit rows → PagesFit (map (rows_on rows) ps)
pages_fit rows [] all = tt
pages_fit rows (p ∷ ps) all = (held_fit rows (blocks_on p.first) all, pages_fit rows ps all)

pub planned_fit : (s : PagesState) (parts : List SegRef) → RowsFit s.rows → PagesFit (plan_of s parts).pages
planned_fit s parts all =
    by_test (λ (p : Plan). PagesFit p.pages) (writes_all (length parts)) (record { pages = all_rows s; parts = [] })
    (record { pages = changed_rows s; parts = parts })
    (λ t. pages_fit s.rows s.pages all) (λ t. pages_fit s.rows (filter (λ page. page.changed) s.pages) all)

-- ---- what a segment tells

filtered_fit : (test : BlockId × Entry → Bool) (rows : Rows) → RowsFit rows → RowsFit (filter test rows)
filtered_fit test [] all = tt
filtered_fit test (r ∷ rows) all =
    by_test RowsFit (test r) (r ∷ filter test rows) (filter test rows) (λ t. (all.0, filtered_fit test rows all.1)) (λ t. filtered_fit test rows all.1)

parts_fit : (slot : ℕ) (items : List Item) → AllByRecursion FitsItem items → RowsFit (flat_map (part_rows slot) items)
parts_fit slot [] all = tt
parts_fit slot (Block block value ∷ items) all = parts_fit slot items all.1
parts_fit slot (Delta block ver hop item ∷ items) all = parts_fit slot items all.1
parts_fit slot (Part of rows ∷ items) all =
    all_append FitsRow (part_rows slot (Part of rows)) (flat_map (part_rows slot) items)
    (by_test RowsFit (of == slot) rows [] (λ t. all.0) (λ t. tt)) (parts_fit slot items all.1)

place_fits : (s : Segment) (item : ℕ) → Fits s → item < 2 ^ 16 → IfSome (place_of s item) FitsPlace
place_fits s item fits small =
    by_test (λ o. IfSome o FitsPlace) (item == no_item) None (Some (record { seg = record { name = s.name; group = s.group }; item = item }))
    (λ t. tt) (λ t. (fits.name, fits.group, small))

pub deltas_fit : (s : Segment) → Fits s → (items : List Item) → AllByRecursion FitsItem items → RowsFit (filter_map (row_of s) items)
deltas_fit s fits [] all = tt
deltas_fit s fits (Block block value ∷ items) all = deltas_fit s fits items all.1
deltas_fit s fits (Delta block ver hop item ∷ items) all =
    ((all.0.0, all.0.1, all.0.2, place_fits s item fits all.0.3), deltas_fit s fits items all.1)
deltas_fit s fits (Part slot rows ∷ items) all = deltas_fit s fits items all.1

pub told_fit : (slot : ℕ) (s : Segment) → Fits s → RowsFit (told_of slot s)
told_fit slot s fits =
    all_append FitsRow (flat_map (part_rows slot) s.items) (filter (is_of slot) (rows_of s)) (parts_fit slot s.items fits.items)
    (filtered_fit (is_of slot) (rows_of s) (deltas_fit s fits s.items fits.items))
