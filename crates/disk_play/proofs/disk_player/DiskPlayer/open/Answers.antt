use Rattle.std.proofs.Common.{◌∙◌, sym, ap, arith}
use Rattle.std.proofs.lemmas.Result.{on_ok_weaker}
use Rattle.disk_play.specs.declared.course.Course.{Course}
use Rattle.disk_play.specs.Courses.{deck_of, opens_on, opens_on_for}
use Rattle.disk_play.proofs.Passing.{stands_told, tells_unanswered}
use Rattle.disk_play.proofs.disk_player.DiskPlayer.open.Goals as goal

pub returns-in-Some-clause-exact : goal.returns-in-Some-clause-exact
unfolding opens_on
returns-in-Some-clause-exact g c =
    let course = c.args.self.now.course in
    let work = c.args.work.now in
    on_ok_weaker c.begin.result
    (λ e. e ∙ ap (opens_on_for g.N.Actor.transition g.N.Shelved.shelf_of (deck_of course c.args.self.now.shelves.items) work) (sym (sym c.actor_of.ensures ∙ c.in-Some.is)))
    c.begin.ensures.exact

pub returns-in-None-clause-exact : goal.returns-in-None-clause-exact
unfolding opens_on
returns-in-None-clause-exact g c =
    let course = c.args.self.now.course in
    let work = c.args.work.now in
    let shelves = c.args.self.now.shelves.items in
    ap (λ (x : Course g.row.N.Denot). deck_of x shelves) c.tell.ensures
    ∙ ap (opens_on_for g.N.Actor.transition g.N.Shelved.shelf_of (deck_of course shelves) work) (sym (sym c.actor_of.ensures ∙ c.in-None.is))

pub returns-in-None-clause-stands : goal.returns-in-None-clause-stands
returns-in-None-clause-stands g c =
    stands_told g.N.Actor.transition g.N.Member.first g.N.Shelved.shelf_of c.args.script.now c.args.self.now.course c.tell.new.self c.args.work.now
    c.args.self.now.shelves.items c.tell.ensures c.requires.stands

pub returns-in-None-clause-one_more : goal.returns-in-None-clause-one_more
returns-in-None-clause-one_more g c =
    let course = c.args.self.now.course in
    omega (arith, ap (λ (d : Course g.row.N.Denot). d.player.unanswered) c.tell.ensures, tells_unanswered course c.args.work.now)
