use Rattle.delta_feed.proofs.Ranges.{ranges_true}
use Rattle.delta_feed.proofs.laws.ranges_tell_what_was_filed.Goals as goal

pub returns : goal.returns
returns c = ranges_true
