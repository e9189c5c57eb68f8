use Rattle.std.proofs.Common.{subst, sym}
use Rattle.std.proofs.lemmas.List.{take_all}
use Rattle.std.proofs.lemmas.List.Elements.{All-more, All-nil, All-same}
use Rattle.live_links.specs.Facts.{IsDone}
use Rattle.live_run.proofs.running.all_done.Goals as goal

pub loop-cell-init : goal.loop-cell-init
loop-cell-init g c = All-nil (λ d. IsDone g.N.Actor.transition g.N.Member.first g.R.RunName.script d.journal.place d.journal.moments)

pub loop-cell-preserved : goal.loop-cell-preserved
loop-cell-preserved g c =
    All-more (λ d. IsDone g.N.Actor.transition g.N.Member.first g.R.RunName.script d.journal.place d.journal.moments) c.args.cells.now c.loop-cell.cell-index _
    c.loop-cell-test.true c.loop-cell.invariant
    (subst (λ d. IsDone g.N.Actor.transition g.N.Member.first g.R.RunName.script d.journal.place d.journal.moments) c.cell-item.is (c.done.ensures.0 c.if-not-done.false))

pub returns : goal.returns
returns g c all =
    All-same (λ d. IsDone g.N.Actor.transition g.N.Member.first g.R.RunName.script d.journal.place d.journal.moments) c.args.cells.now _
    (sym (take_all c.loop-cell.cell-index c.args.cells.now c.loop-cell-test.false)) c.loop-cell.invariant
