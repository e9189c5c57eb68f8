use Rattle.std.proofs.Common.{◌≡◌, ◌∙◌, Some, length, slice_get, slice_set, refl, sym, ap, subst}
use Rattle.std.proofs.lemmas.Option.{slice_get_read, slice_get_within}
use Rattle.std.proofs.lemmas.Result.{on_ok_weaker}
use Rattle.play.proofs.Happening.{same_event}
use Rattle.world_base.specs.Events.{event_of, node_of}
use Rattle.disk_play.specs.declared.course.Course.{Course}
use Rattle.disk_play.specs.Standing.{Stands, Took}
use Rattle.disk_play.proofs.Seating.{asked_so, disks_so, event_stands, found_differs, next_is, settled_as, within}
use Rattle.disk_play.proofs.disk_player.DiskPlayer.happen_at.Goals as goal

pub take_at-requires-clause-changes : goal.take_at-requires-clause-changes
take_at-requires-clause-changes g c shelf was =
    let shelves = c.args.self.now.shelves.items in
    let place = c.args.seat.place in
    let x = c.index-shelf.result.now in
    let parts = c.into_parts-node.ensures in
    let inside = slice_get_within shelves place shelf was in
    let was_x : slice_get shelves place ≡ Some x = slice_get_read shelves (length shelves) place x refl inside c.index-shelf.ensures in
    found_differs g.N.Actor.transition g.N.Member.first g.N.Shelved.shelf_of c.args.script.now g.met.N.Shelved.changes_by_one c.args.self.now.course shelves
    c.requires.stands c.args.event c.args.seat c.requires.seat c.happen.new.self c.into_parts-node.result.0 c.into_parts-node.result.1 parts.node parts.what
    c.in_ok-happen.ensures c.in_ok-call.call x shelf was_x was c.in_ok-call.ensures.exact c.in_ok-call.ensures.gives

pub returns : goal.returns
returns g c =
    let step = g.N.Actor.transition in
    let first = g.N.Member.first in
    let shelf_of = g.N.Shelved.shelf_of in
    let script = c.args.script.now in
    let changes = g.met.N.Shelved.changes_by_one in
    let course = c.args.self.now.course in
    let shelves = c.args.self.now.shelves.items in
    let stands = c.requires.stands in
    let event = c.args.event in
    let seat = c.args.seat in
    let here = c.requires.seat in
    let call = c.in_ok-call.call in
    let x = c.index-shelf.result.now in
    let parts = c.into_parts-node.ensures in
    let node = c.into_parts-node.result.0 in
    let what = c.into_parts-node.result.1 in
    let world = c.happen.new.self in
    let t = c.in_ok-take_at.ensures in
    let new = c.take_at.new.shelves.items in
    let inside = within step first shelf_of script changes course shelves stands event seat here in
    let was_x : slice_get shelves seat.place ≡ Some x = slice_get_read shelves (length shelves) seat.place x refl inside c.index-shelf.ensures in
    let asked =
    asked_so step first shelf_of script changes course shelves stands event seat here world node what parts.node parts.what c.in_ok-happen.ensures call x t.before
    was_x t.was c.in_ok-call.ensures.exact c.in_ok-call.ensures.gives in
    let makes = subst (λ o. Took seat.stop o call t.before t.after) parts.what t.makes in
    let so =
    settled_as step first shelf_of script changes course shelves stands event seat here t.before t.was call asked c.requires.may new t.after t.is makes
    c.fate_for-fate.result world c.set_stop.new.stops c.of.result c.len-sent.result c.len-done.result c.fate_for-fate.ensures
    (next_is step first shelf_of script changes course shelves stands event seat here world node what parts.node parts.what c.in_ok-happen.ensures)
    (c.set_stop.ensures ∙ ap (λ s. slice_set course.stops seat.place s) c.left_by-stop.ensures)
    (c.of.ensures ∙ ap (λ n. event_of n what) parts.node ∙ ap (λ o. event_of (node_of event) o) parts.what ∙ same_event event)
    c.len-sent.ensures c.len-done.ensures in
    let disks =
    disks_so step first shelf_of script changes course shelves stands event seat here t.before t.was call asked c.requires.may new t.after t.is makes in
    record {
      exact = on_ok_weaker c.settle.result (λ e i. record { course = (e ∙ so) i; disks = disks i }) c.settle.ensures;
      stands = on_ok_weaker c.settle.result
          (λ e. subst (λ (d : Course g.row.N.Denot). Stands step first shelf_of script d new) (sym (e ∙ so))
          (event_stands step first shelf_of script changes course shelves stands event seat here t.before t.was call asked c.requires.may new t.after t.is makes))
          c.settle.ensures;
    }
