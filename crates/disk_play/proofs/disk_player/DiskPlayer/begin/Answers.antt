use Rattle.std.proofs.Common.{◌∙◌, sym, ap, subst, arith}
use Rattle.world_base.specs.declared.event.Event.TheVariants.{Begin}
use Rattle.disk_play.specs.declared.course.Course.{Course}
use Rattle.disk_play.specs.Courses.{Deck, begins_on, deck_of, happens_on, on_course, one_more, course_drain, course_wake}
use Rattle.disk_play.specs.Standing.{Stands}
use Rattle.disk_play.proofs.Begun.{woken_events}
use Rattle.disk_play.proofs.Passing.{stands_beside, woken_beside}
use Rattle.disk_play.proofs.disk_player.DiskPlayer.begin.Goals as goal

pub happen-requires-clause-stands : goal.happen-requires-clause-stands
happen-requires-clause-stands g c =
    let step = g.N.Actor.transition in
    let first = g.N.Member.first in
    let shelf_of = g.N.Shelved.shelf_of in
    let script = c.args.script.now in
    let course = c.args.self.now.course in
    let node = c.args.node in
    let shelves = c.args.self.now.shelves.items in
    let s =
    subst (λ (d : Course g.row.N.Denot). Stands step first shelf_of script d shelves) (sym c.wake.ensures)
    (stands_beside step first shelf_of script course (course_wake course node) shelves (woken_beside course node) c.requires.stands) in
    record { run = s.run; stops = s.stops; follow = s.follow }

pub returns-clause-exact : goal.returns-clause-exact
unfolding begins_on
returns-clause-exact g c =
    let step = g.N.Actor.transition in
    let shelf_of = g.N.Shelved.shelf_of in
    let node = c.args.node in
    let shelves = c.args.self.now.shelves.items in
    ap (λ (x : Course g.row.N.Denot). deck_of x c.happen.new.self.shelves.items) c.drain.ensures
    ∙ ap (λ (d : Deck g.row.N.Denot). on_course course_drain d) c.in_ok-happen.ensures.exact
    ∙ ap (λ (x : Course g.row.N.Denot). on_course course_drain (happens_on step shelf_of (deck_of (one_more x) shelves) (Begin node))) c.wake.ensures

pub returns-clause-one_more : goal.returns-clause-one_more
returns-clause-one_more g c =
    let course = c.args.self.now.course in
    let woke = ap (λ (d : Course g.row.N.Denot). d.player.unanswered) c.wake.ensures ∙ ap (λ p. p.unanswered) (woken_events course c.args.node) in
    omega (arith, ap (λ (d : Course g.row.N.Denot). d.player.unanswered) c.drain.ensures, c.in_ok-happen.ensures.no_more, woke)

pub overflow_add-self : goal.overflow_add-self
overflow_add-self g c =
    let course = c.args.self.now.course in
    let woke = ap (λ (d : Course g.row.N.Denot). d.player.unanswered) c.wake.ensures ∙ ap (λ p. p.unanswered) (woken_events course c.args.node) in
    omega (arith, woke, c.requires.room)
