use Rattle.std.proofs.Common.{rules, ◌≡◌, List, ◌++◌, length, sym, subst, arith}
use Rattle.std.proofs.lemmas.Grind.{common_steps}
use Rattle.std.proofs.lemmas.List.{nil_from_length}
use Rattle.std.specs.Vec.Iter.{into_iter_items}
use Rattle.disk_shelf.specs.Kept.{Kept}
use Rattle.disk_shelf.specs.MemDisk.{MemState}
use Rattle.disk_play.specs.Standing.{AreTheirs}
use Rattle.disk_play.proofs.Closing.{theirs_all, theirs_more}
use Rattle.disk_play.proofs.playing.closed.Goals as goal

pub loop-shelf-preserved : goal.loop-shelf-preserved
loop-shelf-preserved c ds theirs =
    let all = into_iter_items c.into_iter-shelf-iterator.result in
    let rest = into_iter_items c.next.new.self in
    let shelf = c.in-Some.shelf in
    let disks = c.loop-shelf.disks in
    subst (λ (l : List MemState). AreTheirs all (l ++ ds)) (sym c.in_ok-push.ensures.ok)
    (theirs_more all rest shelf disks c.close.result c.close.ensures.disk c.close.ensures.stands
    (subst (λ (l : List (Kept MemState)). (es : List MemState) → AreTheirs l es → AreTheirs all (disks ++ es)) c.in-Some.ensures.steps.0
    c.loop-shelf.invariant)
    ds theirs)

pub returns : goal.returns
returns c =
    let all = into_iter_items c.into_iter-shelf-iterator.result in
    let disks = c.loop-shelf.disks in
    let left = c.loop-shelf.shelf-iterator in
    let bare : length (into_iter_items left) ≡ 0 =
    first_of (search rules, omega (arith, c.in-None.ensures.steps.0, left.rest.ok), grind (arith, common_steps)) in
    let none = nil_from_length (into_iter_items left) bare in
    let gives : all ≡ c.args.shelves.items = c.into_iter-shelf-iterator.ensures.into_iter_gives.0 in
    subst (λ (l : List (Kept MemState)). AreTheirs l disks) gives
    (theirs_all all disks
    (subst (λ (l : List (Kept MemState)). (es : List MemState) → AreTheirs l es → AreTheirs all (disks ++ es)) none c.loop-shelf.invariant))
