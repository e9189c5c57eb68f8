use Rattle.node_tellings.proofs.entry_tie.Servers.{servers_tell}
use Rattle.node_tellings.proofs.entry_tie.servers_tell_no_entries.Goals as goal

pub returns : goal.returns
returns c = record { events = servers_tell }
