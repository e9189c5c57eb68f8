use Rattle.std.proofs.Common.{IsFalse, subst, sym}
use Rattle.disk_shelf.specs.Kept.{Kept}
use Rattle.disk_shelf.specs.Records.{DiskState, StandsFor}
use Rattle.disk_shelf.proofs.Rest.{rest_stands}
use Rattle.disk_shelf.proofs.disk_shelf.DiskShelf.close.Goals as goal

pub returns-clause-stands : goal.returns-clause-stands
returns-clause-stands g c open_ =
    let s : DiskState = record { shelf = c.self.inside.shelf; welcomed = c.self.inside.welcomed } in
    let rest = c.self.invariant (subst (λ (k : Kept g.row.D.Denot). IsFalse k.closed) (sym c.self.view_is) open_) in
    subst (λ (k : Kept g.row.D.Denot). StandsFor k.state (g.D.Disk.seen c.self.inside.disk)) c.self.view_is
    (rest_stands g.D.Disk.seen g.D.Disk.may_leave c.self.inside.disk c.self.inside.gate s rest)
