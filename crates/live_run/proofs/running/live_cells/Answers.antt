use Rattle.std.proofs.Common.{ap, length, arith}
use Rattle.live_links.proofs.Parted.{no_parts}
use Rattle.live_run.proofs.running.live_cells.Goals as goal

pub apart-requires-clause-parts : goal.apart-requires-clause-parts
apart-requires-clause-parts g c =
    let e = c.none.ensures.none in
    rw (e.0, e.1, e.2, e.3) (no_parts g.N.Actor.transition g.N.Member.first g.R.RunName.script g.R.RunName.outs _)

pub merged-requires-clause-count : goal.merged-requires-clause-count
merged-requires-clause-count g c =
    let none = ap length c.none.ensures.none.0 in
    let made = c.in_ok-parts.ensures.count in
    let done = c.in_ok-cells-2.ensures.count in
    omega arith
