use Rattle.std.proofs.Common.{◌≡◌, ◌<◌, ◌+◌, ◌++◌, Some, None, length, get_or, drop, ap, sym, ◌∙◌, arith}
use Rattle.std.proofs.lemmas.List.{at_drop_more, append-nil}
use Rattle.std.specs.Map.{lookup}
use Rattle.std.specs.BTreeMap.{is_at}
use Rattle.xfs_base.specs.declared.block.BlockId.{BlockId}
use Rattle.xfs_base.specs.Blocks.{block_cmp}
use Rattle.index_pages.specs.Pages.{held, row_of}
use Rattle.index_pages.proofs.Lists.{row_more}
use Rattle.index_pages.proofs.pages.held.Goals as goal
use Rattle.index_pages.proofs.pages.held.Goals.{in-Some+in_ok-push, in_default}

pub loop-block-preserved : goal.loop-block-preserved
loop-block-preserved c =
    let nothing : BlockId = record { ino = record { 0 = 0 }; blk = 0 } in
    let here : c.loop-block.block-index < length c.args.blocks.now = omega arith in
    let block : BlockId = get_or c.args.blocks.now c.loop-block.block-index nothing in
    let more : held c.args.table.now.entries (drop c.loop-block.block-index c.args.blocks.now) ≡ row_of block
    (lookup (is_at (block_cmp block)) c.args.table.now.entries) ++ held c.args.table.now.entries (drop (c.loop-block.block-index + 1) c.args.blocks.now) =
    at_drop_more (held c.args.table.now.entries) c.args.blocks.now c.loop-block.block-index nothing here
    in
    let before : c.loop-block.rows
    ++ (row_of block (lookup (is_at (block_cmp block)) c.args.table.now.entries)
    ++ held c.args.table.now.entries (drop (c.loop-block.block-index + 1) c.args.blocks.now)) ≡ held c.args.table.now.entries c.args.blocks.now =
    ap (λ r. c.loop-block.rows ++ r) (sym more) ∙ c.loop-block.invariant
    in
    elim c.match-get.branch [
      | in-Some+in_ok-push w ↦ row_more c.loop-block.rows c.match-get.rows _ _ block _ (Some w.in-Some.entry.now) (sym w.in-Some.ensures.value) before
          (w.rows-is ∙ w.in_ok-push.ensures.ok)
      | in_default w ↦ row_more c.loop-block.rows c.match-get.rows _ _ block _ None (sym w.in_default.ensures.value) before
          (w.rows-is ∙ sym (append-nil c.loop-block.rows))
    ]
