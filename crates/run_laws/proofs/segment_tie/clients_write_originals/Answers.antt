use Rattle.run_laws.proofs.segment_tie.Clients.{client_starts, clients_write}
use Rattle.run_laws.proofs.segment_tie.clients_write_originals.Goals as goal

pub returns : goal.returns
returns c = record { start = client_starts; events = clients_write }
