use Rattle.run_laws.proofs.epoch_law.epoch_laws.Goals as goal

pub returns : goal.returns
returns c = record {
  horizons_stay = c.polls_are_low.ensures.horizons;
  client_polls_are_low = c.polls_are_low.ensures.clients;
  cleaner_polls_are_low = c.polls_are_low.ensures.cleaner;
  slots_start_same = c.slots_are_the_same.ensures.start;
  slots_stay_same = c.slots_are_the_same.ensures.stay;
  tokens_are_given = c.tokens_are_given.ensures.given;
}
