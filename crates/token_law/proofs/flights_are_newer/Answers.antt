use Rattle.token_law.proofs.Laws.{flights_are_newer}
use Rattle.token_law.proofs.flights_are_newer.Goals as goal

pub returns : goal.returns
returns c = record { newer = flights_are_newer }
