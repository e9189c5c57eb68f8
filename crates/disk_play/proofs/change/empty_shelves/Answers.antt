use Rattle.std.proofs.Common.{[], ◌∷◌, length, length-append, sym, ap, subst, arith}
use Rattle.std.specs.List.{AllByRecursion}
use Rattle.std.proofs.lemmas.List.Elements.{All-from_recursion}
use Rattle.xfs_base.proofs.Alls.{all_append}
use Rattle.disk_play.specs.Standing.{IsNew}
use Rattle.disk_play.proofs.change.empty_shelves.Goals as goal

pub loop-preserved : goal.loop-preserved
loop-preserved c =
    let shelves = c.loop.shelves.items in
    let shelf = c.in_ok-shelf.shelf in
    let items = c.in_ok-push.ensures.items in (
      omega (arith, ap length items, length-append shelves (shelf ∷ []), c.loop.invariant.0),
      subst (AllByRecursion IsNew) (sym items) (all_append IsNew shelves (shelf ∷ []) c.loop.invariant.1 (c.in_ok-shelf.ensures, tt)),
    )

pub returns-clause-each : goal.returns-clause-each
returns-clause-each c = All-from_recursion IsNew c.loop.shelves.items c.loop.invariant.1
