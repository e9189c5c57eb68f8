use Rattle.std.proofs.Common.{◌≡◌, subst, ℕ, arith}
use Rattle.live_links.specs.Made.{AreLinks}
use Rattle.live_links.proofs.RingRows.{links_more, no_links}
use Rattle.live_links.proofs.making.links.Goals as goal

pub loop-init : goal.loop-init
loop-init c = rw c.new-outs.ensures.items (no_links c.args.count c.in_ok-ins.ins.items c.in_ok-ins.ensures)

pub loop-preserved : goal.loop-preserved
loop-preserved c =
    links_more c.loop.counter c.args.count c.loop.outs.items c.push.new.self.items c.loop.ins.items c.link_row.new.ins.items c.in_ok-row.row c.loop.invariant c.in_ok-row.ensures
    c.in_ok-push.ensures.items

pub returns : goal.returns
returns c =
    let test = c.loop-test.false in
    let most = c.loop.auto.counter-end in
    let whole : c.loop.counter ≡ c.args.count = omega arith in
    subst (λ (k : ℕ). AreLinks k c.args.count c.loop.outs.items c.loop.ins.items) whole c.loop.invariant
