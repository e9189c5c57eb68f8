use Rattle.std.proofs.Common.{All, false, take}
use Rattle.live_links.specs.Ending.{IsEnded}
use Rattle.mounts.proofs.running.all_clients_waited.Given as goal

-- those that were asked have waited
abbrev pub invariant-loop-client : goal.invariant-loop-client
invariant-loop-client g l =
    All (λ c. IsEnded g.N.Actor.transition g.N.Member.first g.R.RunName.script false c.cell.journal.place c.cell.journal.moments) (take l.client-index l.clients)
