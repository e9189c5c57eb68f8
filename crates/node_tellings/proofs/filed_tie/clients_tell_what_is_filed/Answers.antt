use Rattle.node_tellings.proofs.filed_tie.ClientPhases.{client_rises, client_starts, clients_tell}
use Rattle.node_tellings.proofs.filed_tie.clients_tell_what_is_filed.Goals as goal

pub returns : goal.returns
returns c = record {
  start = client_starts;
  rises = client_rises;
  events = clients_tell;
}
