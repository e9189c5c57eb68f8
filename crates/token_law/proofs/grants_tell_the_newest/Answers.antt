use Rattle.token_law.proofs.Laws.{grants_are_of_the_newest}
use Rattle.token_law.proofs.grants_tell_the_newest.Goals as goal

pub returns : goal.returns
returns c = record { newest = grants_are_of_the_newest }
