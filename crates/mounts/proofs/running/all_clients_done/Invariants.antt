use Rattle.std.proofs.Common.{All, take}
use Rattle.live_links.specs.Facts.{IsDone}
use Rattle.mounts.proofs.running.all_clients_done.Given as goal

-- those that were asked are done
abbrev pub invariant-loop-client : goal.invariant-loop-client
invariant-loop-client g l =
    All (λ c. IsDone g.N.Actor.transition g.N.Member.first g.R.RunName.script c.cell.journal.place c.cell.journal.moments) (take l.client-index l.clients)
