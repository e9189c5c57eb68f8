use Rattle.board.proofs.BallotLaws.{next_is_own, next_is_above, next_is_least}
use Rattle.board.proofs.laws.next_ballot_is_the_least.Goals as goal

pub returns : goal.returns
returns c = record { own = next_is_own; above = next_is_above; least = next_is_least }
