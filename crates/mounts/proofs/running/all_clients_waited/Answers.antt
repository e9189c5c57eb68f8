use Rattle.std.proofs.Common.{false, subst, sym, arith}
use Rattle.std.proofs.lemmas.List.{take_all}
use Rattle.std.proofs.lemmas.List.Elements.{All-more, All-nil, All-same}
use Rattle.live_links.specs.Ending.{IsEnded}
use Rattle.mounts.proofs.running.all_clients_waited.Goals as goal

pub loop-client-init : goal.loop-client-init
loop-client-init g c = All-nil (λ d. IsEnded g.N.Actor.transition g.N.Member.first g.R.RunName.script false d.cell.journal.place d.cell.journal.moments)

pub loop-client-preserved : goal.loop-client-preserved
loop-client-preserved g c =
    All-more (λ d. IsEnded g.N.Actor.transition g.N.Member.first g.R.RunName.script false d.cell.journal.place d.cell.journal.moments) c.args.clients.now c.loop-client.client-index _
    c.loop-client-test.true c.loop-client.invariant
    (subst (λ d. IsEnded g.N.Actor.transition g.N.Member.first g.R.RunName.script false d.cell.journal.place d.cell.journal.moments) c.client-item.is (let a = c.from.ensures in let b = c.waited.ensures in let least = c.if-waited-from.false in omega arith))

pub returns : goal.returns
returns g c all =
    All-same (λ d. IsEnded g.N.Actor.transition g.N.Member.first g.R.RunName.script false d.cell.journal.place d.cell.journal.moments) c.args.clients.now _
    (sym (take_all c.loop-client.client-index c.args.clients.now c.loop-client-test.false)) c.loop-client.invariant
