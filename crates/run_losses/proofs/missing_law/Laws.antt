-- Answers tell of misses, in every run.
use Rattle.log_tie.specs.Setting.{Setting}
use Rattle.run_laws.specs.world_logs.Lines.{RunsHaveLines}
use Rattle.run_losses.proofs.missing_law.Answered.{answers_so}
use Rattle.run_losses.specs.missing_law.Missed.{AnswersTellOfMisses}

pub record Below : Type 0 where
  pub setting : Setting
  pub lines : RunsHaveLines

pub answers_tell_of_misses : Below → AnswersTellOfMisses
answers_tell_of_misses below e ok run reader drawn rises count v packet m among from to tells =
    answers_so below.setting e run (below.lines below.setting e ok run) reader drawn rises count v packet m among from to tells
