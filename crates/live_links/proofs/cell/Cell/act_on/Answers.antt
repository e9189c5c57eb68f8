use Rattle.std.proofs.Common.{false, true}
use Rattle.world_base.specs.Cluster.{cluster_of}
use Rattle.live_links.specs.Facts.{dues_at, first_at, name_at}
use Rattle.live_links.proofs.Choosing.{visit_acts, visit_goes_on, visit_rests}
use Rattle.live_links.proofs.cell.Cell.act_on.Goals as goal

pub returns-then-not-moved-clause-visit : goal.returns-then-not-moved-clause-visit
returns-then-not-moved-clause-visit g c =
    let script = g.R.RunName.script in
    let s = c.args.self in
    let p = s.journal.place in
    let mid = c.in_ok-acted.acted in
    visit_rests g.N.Actor.transition (first_at g.N.Member.first script) (cluster_of script.setup) p (name_at script p) (dues_at script p) c.args.idle c.args.more c.in_ok-acted.moved
    (record { moments = s.journal.moments; outs = s.outs; ins = s.ins }) (record { moments = mid.journal.moments; outs = mid.outs; ins = mid.ins }) c.if-not-moved.true c.in_ok-acted.ensures.acted c.in_ok-acted.ensures.chosen

pub returns-then-not-moved-clause-acted : goal.returns-then-not-moved-clause-acted
returns-then-not-moved-clause-acted g c =
    let script = g.R.RunName.script in
    let s = c.args.self in
    let p = s.journal.place in
    let mid = c.in_ok-acted.acted in
    visit_acts g.N.Actor.transition (first_at g.N.Member.first script) (cluster_of script.setup) p (name_at script p) (dues_at script p) c.args.idle c.args.more false
    (record { moments = s.journal.moments; outs = s.outs; ins = s.ins }) (record { moments = mid.journal.moments; outs = mid.outs; ins = mid.ins }) (returns-then-not-moved-clause-visit g c)

pub returns-clause-visit : goal.returns-clause-visit
returns-clause-visit g c =
    let script = g.R.RunName.script in
    let s = c.args.self in
    let p = s.journal.place in
    let mid = c.in_ok-acted.acted in
    let new = c.in_ok-cell.cell in
    let later = c.in_ok-cell.ensures.acted in
    visit_goes_on g.N.Actor.transition (first_at g.N.Member.first script) (cluster_of script.setup) p (name_at script p) (dues_at script p) c.args.idle c.args.more c.in_ok-acted.moved mid.journal.place later.0
    (record { moments = s.journal.moments; outs = s.outs; ins = s.ins }) (record { moments = mid.journal.moments; outs = mid.outs; ins = mid.ins })
    (record { moments = new.journal.moments; outs = new.outs; ins = new.ins }) c.if-not-moved.false c.in_ok-acted.ensures.place c.in_ok-acted.ensures.acted c.in_ok-acted.ensures.chosen later.1 later.2 c.in_ok-cell.ensures.waits

pub returns-clause-acted : goal.returns-clause-acted
returns-clause-acted g c =
    let script = g.R.RunName.script in
    let s = c.args.self in
    let p = s.journal.place in
    let mid = c.in_ok-acted.acted in
    let new = c.in_ok-cell.cell in
    visit_acts g.N.Actor.transition (first_at g.N.Member.first script) (cluster_of script.setup) p (name_at script p) (dues_at script p) c.args.idle c.args.more true
    (record { moments = s.journal.moments; outs = s.outs; ins = s.ins }) (record { moments = new.journal.moments; outs = new.outs; ins = new.ins }) (returns-clause-visit g c)
