use Rattle.std.proofs.Common.{◌≡◌, ℕ, ◌+◌, ◌∷◌, [], ◌++◌, arith}
use Rattle.std.proofs.lemmas.Grind.{common_steps}
use Rattle.std.proofs.lemmas.List.FromFn.{map-range_with_len_more}
use Rattle.xfs_base.specs.declared.block.BlockId.{BlockId}
use Rattle.index_pages.specs.Layout.{blocks_run}
use Rattle.index_pages.proofs.layout.blocks_run.Goals as goal

one_more : (b : BlockId) (k : ℕ) → blocks_run b (k + 1) ≡ blocks_run b k ++ record { ino = b.ino; blk = b.blk + k } ∷ []
one_more b k = map-range_with_len_more (λ (k : ℕ). record { ino = b.ino; blk = b.blk + k }) 0 k k (omega arith)

pub loop-k-preserved : goal.loop-k-preserved
loop-k-preserved c = grind (arith, common_steps, one_more c.args.first c.loop-k.k)
