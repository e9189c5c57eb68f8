use Rattle.std.proofs.Common.{false, subst, sym, arith}
use Rattle.std.proofs.lemmas.List.{take_all}
use Rattle.std.proofs.lemmas.List.Elements.{All-more, All-nil, All-same}
use Rattle.live_links.specs.Ending.{IsEnded}
use Rattle.live_run.proofs.running.all_waited.Goals as goal

pub loop-cell-init : goal.loop-cell-init
loop-cell-init g c = All-nil (λ d. IsEnded g.N.Actor.transition g.N.Member.first g.R.RunName.script false d.journal.place d.journal.moments)

pub loop-cell-preserved : goal.loop-cell-preserved
loop-cell-preserved g c =
    All-more (λ d. IsEnded g.N.Actor.transition g.N.Member.first g.R.RunName.script false d.journal.place d.journal.moments) c.args.cells.now c.loop-cell.cell-index _
    c.loop-cell-test.true c.loop-cell.invariant
    (subst (λ d. IsEnded g.N.Actor.transition g.N.Member.first g.R.RunName.script false d.journal.place d.journal.moments) c.cell-item.is (let a = c.from.ensures in let b = c.waited.ensures in let least = c.if-waited-from.false in omega arith))

pub returns : goal.returns
returns g c all =
    All-same (λ d. IsEnded g.N.Actor.transition g.N.Member.first g.R.RunName.script false d.journal.place d.journal.moments) c.args.cells.now _
    (sym (take_all c.loop-cell.cell-index c.args.cells.now c.loop-cell-test.false)) c.loop-cell.invariant
