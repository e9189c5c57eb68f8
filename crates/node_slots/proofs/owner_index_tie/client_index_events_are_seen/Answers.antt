use Rattle.node_slots.proofs.owner_index_tie.ClientPhases.{client_event_goes}
use Rattle.node_slots.proofs.owner_index_tie.Start.{first_client_agrees, clients_stay}
use Rattle.node_slots.proofs.owner_index_tie.client_index_events_are_seen.Goals as goal

pub returns : goal.returns
returns c = record {
  start = first_client_agrees;
  events = client_event_goes;
  others = clients_stay;
}
