use Rattle.node_slots.proofs.node_tie.ManagerEvents.{manager_event_goes}
use Rattle.node_slots.proofs.node_tie.ManagerStart.{first_manager_agrees}
use Rattle.node_slots.proofs.node_tie.manager_events_are_seen.Goals as goal

pub returns : goal.returns
returns c = record {
  start = first_manager_agrees;
  events = manager_event_goes;
}
