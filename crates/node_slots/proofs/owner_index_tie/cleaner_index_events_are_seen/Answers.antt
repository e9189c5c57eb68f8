use Rattle.node_slots.proofs.owner_index_tie.CleanerEvents.{cleaner_event_goes}
use Rattle.node_slots.proofs.owner_index_tie.CleanerStart.{cleaner_start_agrees, cleaner_stays}
use Rattle.node_slots.proofs.owner_index_tie.cleaner_index_events_are_seen.Goals as goal

pub returns : goal.returns
returns c = record {
  start = cleaner_start_agrees;
  events = cleaner_event_goes;
  others = cleaner_stays;
}
