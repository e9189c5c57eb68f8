use Rattle.node_slots.proofs.owner_index_tie.Moving.{cleaner_moves_answered, cleaner_starts_moving}
use Rattle.node_slots.proofs.owner_index_tie.MovesLog.{flights_are_moves}
use Rattle.node_slots.proofs.owner_index_tie.cleaner_moves_what_was_live.Goals as goal

pub returns : goal.returns
returns c = record {
  start = cleaner_starts_moving;
  events = cleaner_moves_answered;
  flights = flights_are_moves;
}
