use Rattle.node_moves.proofs.cleaner_moves.cleaner_events_are_moves.Goals as goal
use Rattle.node_moves.proofs.cleaner_moves.Events.{cleaner_events_are_moves}

pub returns : goal.returns
returns c = cleaner_events_are_moves
