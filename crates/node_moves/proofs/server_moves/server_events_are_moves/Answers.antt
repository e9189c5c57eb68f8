use Rattle.node_moves.proofs.server_moves.Events.{server_events_are_moves}
use Rattle.node_moves.proofs.server_moves.server_events_are_moves.Goals as goal

pub returns : goal.returns
returns c = server_events_are_moves
