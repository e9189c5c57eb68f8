use Rattle.std.proofs.Common.{rules, ◌≡◌, ◌⊎◌, true, false, inr, ap, subst}
use Rattle.std.proofs.lemmas.Result.{on_ok_weaker}
use Rattle.fragment_store.specs.ShelfState.{ShelfState}
use Rattle.disk_shelf.specs.declared.record.Record.TheVariants.{Held}
use Rattle.disk_shelf.specs.Steps.{TookRecord}
use Rattle.fragment_store.specs.Calls.{shelf_store, on_fill}
use Rattle.disk_shelf.specs.Disk.{LeavesOnly}
use Rattle.disk_shelf.specs.Records.{DiskState, StandsFor}
use Rattle.disk_shelf.proofs.disk_shelf.DiskShelf.store.Goals as goal

pub returns-in-Some-clause-any_moment : goal.returns-in-Some-clause-any_moment
returns-in-Some-clause-any_moment g c open_ = c.rests.ensures.any_moment (record c.args.self.now.state { shelf = shelf_store c.args.self.now.state.shelf c.args.fragment })

pub returns-then-is_ok-clause-any_moment : goal.returns-then-is_ok-clause-any_moment
returns-then-is_ok-clause-any_moment g c open_ = c.rests-then-is_ok.ensures.any_moment (record c.args.self.now.state { shelf = shelf_store c.args.self.now.state.shelf c.args.fragment })

pub returns-clause-any_moment : goal.returns-clause-any_moment
returns-clause-any_moment g c open_ =
    let old = c.args.self.now in
    let same : on_fill old.state.shelf c.args.fragment ≡ shelf_store old.state.shelf c.args.fragment = search rules in
    subst (λ (t : DiskState). LeavesOnly g.D.Disk.moment g.D.Disk.left_since old.disk c.change.new.self.disk (λ f. StandsFor old.state f ⊎ StandsFor t f))
    (ap (λ s. record old.state { shelf = s }) same) (c.change.ensures.any_moment open_)

pub returns-clause-exact : goal.returns-clause-exact
returns-clause-exact g c =
    let old = c.args.self.now in
    let same : on_fill old.state.shelf c.args.fragment ≡ shelf_store old.state.shelf c.args.fragment = search rules in
    on_ok_weaker c.change.result
    (λ took. inr (subst
    (λ (t : ShelfState). TookRecord g.D.Disk.seen g.D.Disk.may_leave g.D.Disk.by_room g.D.Disk.by_write g.D.Disk.by_sync old.disk old.state
    (record old.state { shelf = t }) (Held c.args.fragment) true c.change.new.self.disk)
    same took))
    c.change.ensures.exact

pub returns-clause-cut : goal.returns-clause-cut
returns-clause-cut g c failed =
    let old = c.args.self.now in
    let same : on_fill old.state.shelf c.args.fragment ≡ shelf_store old.state.shelf c.args.fragment = search rules in
    subst
    (λ (t : ShelfState). TookRecord g.D.Disk.seen g.D.Disk.may_leave g.D.Disk.by_room g.D.Disk.by_write g.D.Disk.by_sync old.disk old.state
    (record old.state { shelf = t }) (Held c.args.fragment) false c.change.new.self.disk)
    same (c.change.ensures.cut failed)
