use Rattle.token_law.proofs.Laws.{acts_are_legal, falls_are_apart}
use Rattle.token_law.proofs.acts_are_legal.Goals as goal

pub returns : goal.returns
returns c = record { legal = acts_are_legal; apart = falls_are_apart }
