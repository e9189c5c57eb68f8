use Rattle.std.proofs.Common.{◌≡◌, ◌<◌, suc, sym, ap, ◌∙◌, arith}
use Rattle.play.proofs.Manners.{came_falls, came_rest, done_is_all}
use Rattle.play.specs.Manner.{playing_go}
use Rattle.play.specs.Plays.{with_schedule}
use Rattle.world_base.specs.Schedule.{left}
use Rattle.disk_play.specs.Courses.{deck_of, manner_on, on_course, with_player}
use Rattle.disk_play.proofs.Lawful.{lawful}
use Rattle.disk_play.proofs.disk_player.DiskPlayer.go.Goals as goal

pub loop-alloc-preserved : goal.loop-alloc-preserved
loop-alloc-preserved g c =
    let step = g.N.Actor.transition in
    let shelf_of = g.N.Shelved.shelf_of in
    let d = deck_of c.loop-alloc.self.course c.loop-alloc.self.shelves.items in
    let new = deck_of c.come.new.self.course c.come.new.self.shelves.items in
    record {
      all =
          came_rest (manner_on step shelf_of) (lawful step shelf_of) d _ new c.next-next.result
          (ap (λ s. on_course (λ c. with_player c (with_schedule c.player s)) d) c.next-next.ensures.state) c.next-next.ensures.next
          c.in_ok-come.ensures.exact (sym c.is_done.ensures ∙ c.if-is_done.false)
          ∙ c.loop-alloc.invariant.all;
      stands = c.in_ok-come.ensures.stands;
      no_more = omega (arith, c.in_ok-come.ensures.no_more, c.loop-alloc.invariant.no_more);
    }

pub loop-alloc-smaller : goal.loop-alloc-smaller
loop-alloc-smaller g c =
    let step = g.N.Actor.transition in
    let shelf_of = g.N.Shelved.shelf_of in
    let d = deck_of c.loop-alloc.self.course c.loop-alloc.self.shelves.items in
    let new = deck_of c.come.new.self.course c.come.new.self.shelves.items in
    let falls : suc (left new.course.player.schedule) ≡ left d.course.player.schedule =
    came_falls (manner_on step shelf_of) (lawful step shelf_of) d _ new c.next-next.result
    (ap (λ s. on_course (λ c. with_player c (with_schedule c.player s)) d) c.next-next.ensures.state) c.next-next.ensures.next
    c.in_ok-come.ensures.exact (sym c.is_done.ensures ∙ c.if-is_done.false) in
    let less : left c.come.new.self.course.player.schedule < left d.course.player.schedule = omega (arith, falls) in
    less

pub returns-then-is_done-clause-exact : goal.returns-then-is_done-clause-exact
unfolding playing_go
returns-then-is_done-clause-exact g c =
    let step = g.N.Actor.transition in
    let shelf_of = g.N.Shelved.shelf_of in
    let d = deck_of c.loop-alloc.self.course c.loop-alloc.self.shelves.items in
    done_is_all (manner_on step shelf_of) (lawful step shelf_of) d _ c.next-next.result
    (ap (λ s. on_course (λ c. with_player c (with_schedule c.player s)) d) c.next-next.ensures.state) c.next-next.ensures.next
    (sym c.is_done.ensures ∙ c.if-is_done.true)
    ∙ c.loop-alloc.invariant.all
