use Rattle.run_losses.proofs.unlost_law.Unlost.{nothing_is_lost}
use Rattle.run_losses.proofs.unlost_law.nothing_is_lost_without_losses.Goals as goal

pub returns : goal.returns
returns c = record {
  lost = nothing_is_lost c.without_losses_no_restart_is_doubtful.ensures.scripts c.each_lost_act_is_earned.ensures.earned c.lost_answers_are_said.ensures.runs;
}
