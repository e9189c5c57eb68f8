use Rattle.node_slots.proofs.node_tie.ClientPhases.{client_takes}
use Rattle.node_slots.proofs.node_tie.ClientStart.{client_starts}
use Rattle.node_slots.proofs.node_tie.client_events_are_seen.Goals as goal

pub returns : goal.returns
returns c = record {
  start = client_starts;
  events = client_takes;
}
