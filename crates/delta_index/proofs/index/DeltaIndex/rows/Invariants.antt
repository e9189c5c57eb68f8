use Rattle.std.proofs.Common.{◌≡◌, ◌++◌}
use Rattle.delta_index.proofs.index.DeltaIndex.rows.Given as goal

-- the rows so far and those to come are all
abbrev pub invariant-loop-block : goal.invariant-loop-block
invariant-loop-block l = l.rows ++ l.block-iterator ≡ l.self
