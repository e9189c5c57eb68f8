use Rattle.std.proofs.Common.{◌≡◌, ◌+◌, ◌^◌, ◌<◌, ◌++◌, drop, length}
use Rattle.xfs_base.specs.Steps.{steps}
use Rattle.token_manager.specs.Transition.{finish_job}
use Rattle.token_manager.proofs.slot.Slot.finish_jobs.Given as goal

-- turns are left for the wants to come; what was done and what is to be done is all
abbrev pub invariant-loop-block : goal.invariant-loop-block
invariant-loop-block l =
    record {
      room : l.self.turn + length l.blocks < 2 ^ 64 + l.block-index;
      state : (steps finish_job l.self (drop l.block-index l.blocks)).state ≡ (steps finish_job l.initial.self l.blocks).state;
      outs : l.outs ++ (steps finish_job l.self (drop l.block-index l.blocks)).outs ≡ l.initial.outs ++ (steps finish_job l.initial.self l.blocks).outs;
    }
