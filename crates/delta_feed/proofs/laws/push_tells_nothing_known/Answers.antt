use Rattle.delta_feed.specs.History.{state_after}
use Rattle.delta_feed.proofs.AfterInputs.{is_after}
use Rattle.delta_feed.proofs.Ranges.{known_untold}
use Rattle.delta_feed.proofs.laws.push_tells_nothing_known.Goals as goal

pub returns : goal.returns
returns c = λ base inputs slot l knows. known_untold base inputs (state_after base inputs) slot (is_after base inputs) l knows
