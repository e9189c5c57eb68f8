use Rattle.node_tellings.proofs.entry_tie.ClientPhases.{client_rises, client_starts, clients_tell}
use Rattle.node_tellings.proofs.entry_tie.clients_tell_told_entries.Goals as goal

pub returns : goal.returns
returns c = record {
  start = client_starts;
  rises = client_rises;
  events = clients_tell;
}
