use Rattle.std.proofs.Common.{◌≡◌, drop}
use Rattle.delta_index.specs.Index.{merged_all}
use Rattle.takeover.proofs.rows.merge.Given as goal

-- once those to come are merged, all are
abbrev pub invariant-loop-block : goal.invariant-loop-block
invariant-loop-block l = merged_all l.index (drop l.block-index l.rows) ≡ merged_all l.initial.index l.rows
