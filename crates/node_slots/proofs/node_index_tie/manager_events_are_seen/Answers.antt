use Rattle.node_slots.proofs.node_index_tie.Events.{manager_event_goes}
use Rattle.node_slots.proofs.node_index_tie.Start.{first_manager_agrees}
use Rattle.node_slots.proofs.node_index_tie.Staying.{managers_stay}
use Rattle.node_slots.proofs.node_index_tie.manager_events_are_seen.Goals as goal

pub returns : goal.returns
returns c = record {
  start = first_manager_agrees;
  events = manager_event_goes;
  others = managers_stay;
}
