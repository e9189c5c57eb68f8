use Rattle.run_laws.proofs.reopening_law.Falling.{falls_go_on, falls_stay}
use Rattle.run_laws.proofs.reopening_law.falls_tell_their_flight.Goals as goal

pub returns : goal.returns
returns c = record { stays = falls_stay; events = falls_go_on }
