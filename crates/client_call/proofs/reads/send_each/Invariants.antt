use Rattle.std.proofs.Common.{◌≡◌, ◌++◌, drop, map}
use Rattle.log_owner.specs.Sending.{fetch}
use Rattle.client_call.proofs.reads.send_each.Given as goal

abbrev pub invariant-loop-server : goal.invariant-loop-server
invariant-loop-server l = l.effects ++ map (fetch l.name l.ask) (drop l.server-index l.servers) ≡ l.initial.effects ++ map (fetch l.name l.ask) l.servers
