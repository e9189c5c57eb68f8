use Rattle.std.proofs.Common.{List, ℕ, ap, subst}
use Rattle.disk_shelf.specs.Deeds.{IsImage, images}
use Rattle.disk_shelf.specs.MemDisk.{MemState, disk_bytes}
use Rattle.disk_shelf.specs.Records.{DiskState}
use Rattle.disk_shelf.proofs.Rest.{rest_goes_on}
use Rattle.disk_shelf.proofs.disk_shelf.DiskShelf+MemDisk.stop_after.Goals as goal

pub invariant_of-self : goal.invariant_of-self
invariant_of-self c open_ =
    let s : DiskState = record { shelf = c.self.inside.shelf; welcomed = c.self.inside.welcomed } in
    rest_goes_on (λ (m : MemState). disk_bytes m) (λ (m : MemState) (f : List ℕ). IsImage (images m.drive.deeds) f) c.self.inside.disk c.stop_after.new.self c.self.inside.gate s
    (c.self.invariant open_) (ap (λ (m : MemState). disk_bytes m) c.stop_after.ensures)
    (λ f image. subst (λ (m : MemState). IsImage (images m.drive.deeds) f) c.stop_after.ensures image)
