use Rattle.delta_feed.specs.History.{state_after}
use Rattle.delta_feed.proofs.AfterInputs.{is_after}
use Rattle.delta_feed.proofs.Ranges.{lacking_told}
use Rattle.delta_feed.proofs.laws.push_tells_what_is_lacking.Goals as goal

pub returns : goal.returns
returns c = λ base inputs slot l lacks. lacking_told base inputs (state_after base inputs) slot (is_after base inputs) l lacks
