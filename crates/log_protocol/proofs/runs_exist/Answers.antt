use Rattle.log_protocol.proofs.StepsTaken.{every_step_taken, every_index_step_taken}
use Rattle.log_protocol.proofs.AdoptedRun.{tail_adopted}
use Rattle.log_protocol.proofs.DiscardedRun.{tail_discarded}
use Rattle.log_protocol.proofs.EmptyRun.{empty_opened}
use Rattle.log_protocol.proofs.IndexRun.{index_moved}
use Rattle.log_protocol.proofs.runs_exist.Goals as goal

pub returns : goal.returns
returns c = record {
  adopted = tail_adopted;
  discarded = tail_discarded;
  empty = empty_opened;
  index = index_moved;
  every_step = every_step_taken;
  every_index_step = every_index_step_taken;
}
