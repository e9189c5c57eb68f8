use Rattle.run_losses.proofs.earned_law.each_lost_act_is_earned.Goals as goal
use Rattle.run_losses.proofs.earned_law.Earning.{lost_acts_are_earned}

pub returns : goal.returns
returns c = record {
  earned = lost_acts_are_earned (record {
    readers = c.only_readers_say_lost.ensures.readers;
    reopenings = c.reopenings_lose_what_was_whole.ensures.lost;
    takeovers = c.takeovers_lose_what_is_torn.ensures.torn;
    filed = c.takeovers_lose_what_was_filed.ensures.losses;
    reads = c.reads_lose_what_is_torn.ensures.earned;
  });
}
