use Rattle.index_tie.proofs.Feeds.{ranges_tell}
use Rattle.index_tie.proofs.what_is_told_is_filed.Goals as goal

pub returns : goal.returns
returns c = ranges_tell
