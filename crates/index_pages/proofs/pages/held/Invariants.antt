use Rattle.std.proofs.Common.{◌≡◌, ◌++◌, drop}
use Rattle.index_pages.specs.Pages.{held}
use Rattle.index_pages.proofs.pages.held.Given as goal

-- the rows so far and those to come are all
abbrev pub invariant-loop-block : goal.invariant-loop-block
invariant-loop-block l = l.rows ++ held l.table.entries (drop l.block-index l.blocks) ≡ held l.table.entries l.blocks
