use Rattle.node_tellings.proofs.reading_tie.Clients.{client_keeps, client_rises, client_starts, clients_read}
use Rattle.node_tellings.proofs.reading_tie.clients_read_what_came.Goals as goal

pub returns : goal.returns
returns c = record {
  start = client_starts;
  rises = client_rises;
  events = client_keeps;
  reads = clients_read;
}
