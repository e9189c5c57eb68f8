use Rattle.node_slots.proofs.node_tie.AsksEvents.{first_asks, phase_asks}
use Rattle.node_slots.proofs.node_tie.clients_ask_for_their_call.Goals as goal

pub returns : goal.returns
returns c = record {
  start = first_asks;
  events = phase_asks;
}
