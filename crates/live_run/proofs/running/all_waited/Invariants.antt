use Rattle.std.proofs.Common.{All, false, take}
use Rattle.live_links.specs.Ending.{IsEnded}
use Rattle.live_run.proofs.running.all_waited.Given as goal

-- those that were asked have waited
abbrev pub invariant-loop-cell : goal.invariant-loop-cell
invariant-loop-cell g l =
    All (λ c. IsEnded g.N.Actor.transition g.N.Member.first g.R.RunName.script false c.journal.place c.journal.moments) (take l.cell-index l.cells)
