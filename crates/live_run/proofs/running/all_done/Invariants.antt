use Rattle.std.proofs.Common.{All, take}
use Rattle.live_links.specs.Facts.{IsDone}
use Rattle.live_run.proofs.running.all_done.Given as goal

-- those that were asked are done
abbrev pub invariant-loop-cell : goal.invariant-loop-cell
invariant-loop-cell g l =
    All (λ c. IsDone g.N.Actor.transition g.N.Member.first g.R.RunName.script c.journal.place c.journal.moments) (take l.cell-index l.cells)
