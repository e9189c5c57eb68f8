use Rattle.manager_moves.proofs.Events.{manager_events_are_moves}
use Rattle.manager_moves.proofs.manager_events_are_moves.Goals as goal

pub returns : goal.returns
returns c = manager_events_are_moves
