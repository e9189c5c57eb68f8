use Rattle.node_tellings.proofs.filed_tie.Servers.{servers_tell, servers_tell_alone}
use Rattle.node_tellings.proofs.filed_tie.servers_tell_what_is_filed.Goals as goal

pub returns : goal.returns
returns c = record {
  events = servers_tell;
  alone = servers_tell_alone;
}
