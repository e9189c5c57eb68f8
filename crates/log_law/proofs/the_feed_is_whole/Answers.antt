use Rattle.log_law.proofs.InLine.{the_feed_is_whole}
use Rattle.log_law.proofs.the_feed_is_whole.Goals as goal

pub returns : goal.returns
returns c = record { feed = the_feed_is_whole c.below.ensures }
