use Rattle.run_laws.proofs.epoch_law.Horizons.{horizons_stay}
use Rattle.run_laws.proofs.epoch_law.Polls.{cleaner_polls_low, client_polls_low}
use Rattle.run_laws.proofs.epoch_law.polls_are_low.Goals as goal

pub returns : goal.returns
returns c = record {
  horizons = horizons_stay c.cleaning_loses_nothing.ensures.managed;
  clients = client_polls_low c.cleaning_loses_nothing.ensures.managed c.tokens_keep_their_word.ensures.promised;
  cleaner = cleaner_polls_low c.cleaning_loses_nothing.ensures.managed c.tokens_keep_their_word.ensures.promised;
}
