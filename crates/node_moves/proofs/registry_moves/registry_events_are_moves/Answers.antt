use Rattle.node_moves.proofs.registry_moves.Events.{registry_events_are_moves}
use Rattle.node_moves.proofs.registry_moves.registry_events_are_moves.Goals as goal

pub returns : goal.returns
returns c = registry_events_are_moves
