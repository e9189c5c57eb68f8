use Rattle.std.proofs.Common.{◌∙◌, refl, subst, suc, ℕ, arith}
use Rattle.world_base.specs.Cluster.{cluster_of}
use Rattle.live_links.specs.Acts.{Acted, CellView}
use Rattle.live_links.specs.Facts.{first_at}
use Rattle.live_links.proofs.cell.Cell.act_more.Goals as goal

pub loop-init : goal.loop-init
loop-init g c = record { place = refl; acted = (0, omega arith, refl); waits = refl }

pub loop-preserved : goal.loop-preserved
loop-preserved g c =
    let script = g.R.RunName.script in
    let now = c.loop.cell in
    let next = c.in_ok-next.next in
    let so_far = c.loop.invariant in
    let mid : CellView = record { moments = now.journal.moments; outs = now.outs; ins = now.ins } in
    let new : CellView = record { moments = next.journal.moments; outs = next.outs; ins = next.ins } in
    let le = so_far.acted.1 in
    record {
      place = c.in_ok-next.ensures.place ∙ so_far.place;
      acted = (
        suc so_far.acted.0,
        omega arith,
        (
          mid,
          c.in_ok-next.again,
          so_far.acted.2,
          subst (λ (k : ℕ). Acted g.N.Actor.transition (first_at g.N.Member.first script k) (cluster_of script.setup) k c.in_ok-next.again mid new) so_far.place c.in_ok-next.ensures.acted,
        ),
      );
      waits = c.in_ok-next.ensures.chosen.waits refl ∙ so_far.waits;
    }
