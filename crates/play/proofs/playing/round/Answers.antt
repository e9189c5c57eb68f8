use Rattle.std.proofs.Common.{◌+◌, ◌-◌, sym, ap, ◌∙◌, fold, map, arith}
use Rattle.std.specs.List.{range_with_len}
use Rattle.world_base.specs.Cluster.{node_at}
use Rattle.world_base.proofs.Ranges.{range_step}
use Rattle.play.proofs.playing.round.Goals as goal

pub loop-place-preserved : goal.loop-place-preserved
loop-place-preserved g c =
    let ticks = g.P.Playing.manner.ticks in
    let p = c.loop-place.play in
    let cluster = c.cluster-cluster.result in
    let i = c.loop-place.place in
    let end = c.count-place-end.result in
    let ticked = c.in_ok-tick.ensures.exact ∙ ap (ticks p) c.node_at.ensures in (
      ap (λ q. fold ticks q (map (node_at cluster) (range_with_len (i + 1) (end - (i + 1))))) ticked
          ∙ ap (λ places. fold ticks p (map (node_at cluster) places)) (sym (range_step i end c.loop-place-test.true))
          ∙ c.loop-place.invariant.0,
      omega (arith, c.in_ok-tick.ensures.no_more, c.loop-place.invariant.1),
    )
