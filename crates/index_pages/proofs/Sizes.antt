-- How many rows a page has.
use Rattle.std.proofs.Common.{◌≡◌, ℕ, ◌+◌, ◌-◌, ◌≤◌, ◌==◌, min, true, false, cond, List, [], ◌∷◌, ◌++◌, length, Some, None, arith}
use Rattle.std.specs.Map.{lookup}
use Rattle.std.specs.BTreeMap.{is_at}
use Rattle.std.proofs.lemmas.List.{length_push}
use Rattle.std.proofs.lemmas.List.FromFn.{length-map-range_with_len}
use Rattle.xfs_base.specs.declared.block.BlockId.{BlockId}
use Rattle.xfs_base.specs.declared.entry.Entry.{Entry}
use Rattle.xfs_base.specs.Blocks.{block_cmp}
use Rattle.xfs_base.specs.Limits.{u32_end}
use Rattle.index_pages.specs.declared.layout.Page.{Page}
use Rattle.index_pages.specs.Layout.{blocks_run, blocks_on}
use Rattle.index_pages.specs.Pages.{row_of, held, rows_on}

few_held : (rows : List (BlockId × Entry)) (blocks : List BlockId) → length (held rows blocks) ≤ length blocks
few_held rows [] = omega arith
few_held rows (b ∷ bs) =
    let rest : length (held rows bs) ≤ length bs = few_held rows bs in
    elim (lookup (is_at (block_cmp b)) rows) as (λ o. length (row_of b o ++ held rows bs) ≤ length (b ∷ bs)) [ None ↦ omega arith | Some e ↦ omega arith ]

run_length : (b : BlockId) (count : ℕ) → length (blocks_run b count) ≡ count
run_length b count = length-map-range_with_len (λ (k : ℕ). record { ino = b.ino; blk = b.blk + k }) 0 count

few_blocks : (b : BlockId) → length (blocks_on b) ≤ 64
few_blocks b =
    let last : BlockId = record { ino = b.ino; blk = u32_end } in
    let low : length (blocks_run b 16 ++ last ∷ []) ≤ 64 = omega (arith, length_push (blocks_run b 16) last, run_length b 16) in
    let run : length (blocks_run b (min 64 (u32_end - b.blk))) ≤ 64 = omega (arith, run_length b (min 64 (u32_end - b.blk))) in
    elim (b.blk == 0) as (λ t. length (cond t (blocks_run b 16 ++ last ∷ []) (blocks_run b (min 64 (u32_end - b.blk)))) ≤ 64) [ true ↦ low | false ↦ run ]

pub few_rows : (rows : List (BlockId × Entry)) (page : Page) → length (rows_on rows page) ≤ 64
few_rows rows page =
    let held_few : length (rows_on rows page) ≤ length (blocks_on page.first) = few_held rows (blocks_on page.first) in
    let blocks_few : length (blocks_on page.first) ≤ 64 = few_blocks page.first in
    omega arith
