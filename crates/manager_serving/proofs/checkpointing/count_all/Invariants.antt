use Rattle.std.proofs.Common.{◌≡◌, drop, fold}
use Rattle.manager_serving.specs.Checkpoints.{checkpointing_count}
use Rattle.manager_serving.proofs.checkpointing.count_all.Given as goal

-- once those to come are counted, all are
abbrev pub invariant-loop-out : goal.invariant-loop-out
invariant-loop-out l = fold checkpointing_count l.checkpoint (drop l.out-index l.outs) ≡ fold checkpointing_count l.initial.checkpoint l.outs
