use Rattle.stripe_cleaner.proofs.Emptying.{all_deletes_emptied}
use Rattle.stripe_cleaner.proofs.laws.deletes_what_is_emptied.Goals as goal

pub returns : goal.returns
returns c = all_deletes_emptied
