use Rattle.std.proofs.Common.{◌≡◌}
use Rattle.index_pages.specs.Layout.{blocks_run}
use Rattle.index_pages.proofs.layout.blocks_run.Given as goal

-- the blocks so far
abbrev pub invariant-loop-k : goal.invariant-loop-k
invariant-loop-k l = l.blocks ≡ blocks_run l.first l.k
