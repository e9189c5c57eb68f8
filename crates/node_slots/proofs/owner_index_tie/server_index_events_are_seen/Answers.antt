use Rattle.node_slots.proofs.owner_index_tie.Servers.{server_event_goes}
use Rattle.node_slots.proofs.owner_index_tie.server_index_events_are_seen.Goals as goal

pub returns : goal.returns
returns c = server_event_goes
