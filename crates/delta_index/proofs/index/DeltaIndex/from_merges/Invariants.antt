use Rattle.std.proofs.Common.{◌≡◌, [], drop}
use Rattle.delta_index.specs.Index.{merged_all}
use Rattle.delta_index.proofs.index.DeltaIndex.from_merges.Given as goal

-- the merges to come, on what is held, give what all give
abbrev pub invariant-loop-block : goal.invariant-loop-block
invariant-loop-block l = merged_all l.index (drop l.block-index l.merges) ≡ merged_all [] l.merges
