use Rattle.std.proofs.Common.{◌≡◌, ◌++◌}
use Rattle.slot_beliefs.specs.Recalls.{ready_blocks}
use Rattle.slot_beliefs.proofs.recalls.ready_blocks.Given as goal

-- the blocks so far, and those to come, are all
abbrev pub invariant-loop-block : goal.invariant-loop-block
invariant-loop-block l = l.blocks ++ ready_blocks l.block-iterator l.applied ≡ ready_blocks l.jobs.entries l.applied
