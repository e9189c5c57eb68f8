use Rattle.run_laws.proofs.epoch_law.Managers.{tokens_are_given}
use Rattle.run_laws.proofs.epoch_law.tokens_are_given.Goals as goal

pub returns : goal.returns
returns c = record { given = tokens_are_given }
