use Rattle.std.proofs.Common.{◌+◌, ◌-◌, sym, ap, ◌∙◌, fold, map, arith}
use Rattle.std.specs.List.{range_with_len}
use Rattle.world_base.specs.declared.event.Event.TheVariants.{Tick}
use Rattle.world_base.specs.Cluster.{node_at}
use Rattle.world_base.proofs.Ranges.{range_step}
use Rattle.disk_play.specs.Courses.{deck_of, happens_on, ticks_on}
use Rattle.disk_play.proofs.Happening.{ticks_is}
use Rattle.disk_play.proofs.disk_player.DiskPlayer.round.Goals as goal

pub loop-place-preserved : goal.loop-place-preserved
loop-place-preserved g c =
    let step = g.N.Actor.transition in
    let shelf_of = g.N.Shelved.shelf_of in
    let d = deck_of c.loop-place.self.course c.loop-place.self.shelves.items in
    let cluster = c.args.self.now.course.player.world.cluster in
    let i = c.loop-place.place in
    let end = c.count-place-end.result in
    let ticked =
    c.in_ok-happen.ensures.exact ∙ ap (λ node. happens_on step shelf_of d (Tick node)) c.node_at.ensures ∙ ticks_is step shelf_of d (node_at cluster i)
    in
    record {
      all = ap (λ q. fold (ticks_on step shelf_of) q (map (node_at cluster) (range_with_len (i + 1) (end - (i + 1))))) ticked
          ∙ ap (λ places. fold (ticks_on step shelf_of) d (map (node_at cluster) places)) (sym (range_step i end c.loop-place-test.true))
          ∙ c.loop-place.invariant.all;
      stands = c.in_ok-happen.ensures.stands;
      no_more = omega (arith, c.in_ok-happen.ensures.no_more, c.loop-place.invariant.no_more);
    }
