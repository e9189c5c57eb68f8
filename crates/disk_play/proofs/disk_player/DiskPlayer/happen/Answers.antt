use Rattle.std.proofs.Common.{◌∙◌, ◌≤◌, sym, ap, subst}
use Rattle.std.proofs.lemmas.Result.{on_ok_weaker}
use Rattle.play.specs.declared.player.Player.{Player}
use Rattle.disk_play.specs.Courses.{Deck, deck_of, seat_of, with_player}
use Rattle.disk_play.specs.Standing.{Stands}
use Rattle.disk_play.proofs.Happening.{on_none, on_running, on_stopped}
use Rattle.disk_play.proofs.Passing.{at_fewer, elsewhere_stands}
use Rattle.disk_play.proofs.disk_player.DiskPlayer.happen.Goals as goal

pub returns-then-seat-clause-exact : goal.returns-then-seat-clause-exact
returns-then-seat-clause-exact g c =
    let course = c.args.self.now.course in
    let here = ap (seat_of course.stops) (sym c.node.ensures) ∙ sym c.seat_of.ensures.exact ∙ c.in-Some.is in
    sym (on_stopped g.N.Actor.transition g.N.Shelved.shelf_of (deck_of course c.args.self.now.shelves.items) c.args.event c.in-Some.seat here c.if-seat.true)

pub returns-in-None-clause-exact : goal.returns-in-None-clause-exact
returns-in-None-clause-exact g c =
    let course = c.args.self.now.course in
    let shelves = c.args.self.now.shelves.items in
    let here = ap (seat_of course.stops) (sym c.node.ensures) ∙ sym c.seat_of.ensures.exact ∙ c.in-None.is in
    on_ok_weaker c.happen.result
    (λ e. ap (λ (p : Player g.row.N.Denot). deck_of (with_player course p) shelves) e
    ∙ sym (on_none g.N.Actor.transition g.N.Shelved.shelf_of (deck_of course shelves) c.args.event here))
    c.happen.ensures.exact

pub returns-in-None-clause-stands : goal.returns-in-None-clause-stands
returns-in-None-clause-stands g c =
    let step = g.N.Actor.transition in
    let first = g.N.Member.first in
    let shelf_of = g.N.Shelved.shelf_of in
    let script = c.args.script.now in
    let course = c.args.self.now.course in
    let shelves = c.args.self.now.shelves.items in
    let here = ap (seat_of course.stops) (sym c.node.ensures) ∙ sym c.seat_of.ensures.exact ∙ c.in-None.is in
    on_ok_weaker c.happen.result
    (λ e. subst (λ (p : Player g.row.N.Denot). Stands step first shelf_of script (with_player course p) shelves) (sym e)
    (elsewhere_stands step first shelf_of script course shelves c.args.event here c.requires.may c.requires.stands))
    c.happen.ensures.exact

pub happen_at-requires-clause-seat : goal.happen_at-requires-clause-seat
happen_at-requires-clause-seat g c =
    ap (seat_of c.args.self.now.course.stops) (sym c.node.ensures) ∙ sym c.seat_of.ensures.exact ∙ c.in-Some.is

pub returns-else-seat-clause-exact : goal.returns-else-seat-clause-exact
returns-else-seat-clause-exact g c =
    let course = c.args.self.now.course in
    let here = ap (seat_of course.stops) (sym c.node.ensures) ∙ sym c.seat_of.ensures.exact ∙ c.in-Some.is in
    on_ok_weaker c.happen_at.result
    (λ e. e ∙ sym (on_running g.N.Actor.transition g.N.Shelved.shelf_of (deck_of course c.args.self.now.shelves.items) c.args.event c.in-Some.seat here c.if-seat.false))
    c.happen_at.ensures.exact

pub returns-else-seat-clause-no_more : goal.returns-else-seat-clause-no_more
returns-else-seat-clause-no_more g c =
    let course = c.args.self.now.course in
    on_ok_weaker c.happen_at.result
    (λ e. subst (λ (d : Deck g.row.N.Denot). d.course.player.unanswered ≤ course.player.unanswered) (sym e)
    (at_fewer g.N.Actor.transition g.N.Member.first g.N.Shelved.shelf_of c.args.script.now (deck_of course c.args.self.now.shelves.items) c.in-Some.seat
    c.args.event))
    c.happen_at.ensures.exact
