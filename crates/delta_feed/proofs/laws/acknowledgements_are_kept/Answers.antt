use Rattle.delta_feed.specs.History.{state_after}
use Rattle.delta_feed.proofs.AfterInputs.{is_after, acked_after}
use Rattle.delta_feed.proofs.laws.acknowledgements_are_kept.Goals as goal

pub returns : goal.returns
returns c = λ base inputs slot l. acked_after base inputs (state_after base inputs) (is_after base inputs) slot l
