use Rattle.stripe_cleaner.proofs.Below.{all_empties_below}
use Rattle.stripe_cleaner.proofs.laws.empties_below_the_horizon.Goals as goal

pub returns : goal.returns
returns c = all_empties_below
