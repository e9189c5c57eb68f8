use Rattle.std.proofs.Common.{List, ℕ, sym, ap, subst, ◌∙◌}
use Rattle.disk_shelf.specs.Kept.{Kept}
use Rattle.disk_shelf.specs.Drives.{opened}
use Rattle.disk_shelf.specs.MemDisk.{MemState, disk_bytes, started}
use Rattle.disk_shelf.proofs.Doing.{disks_open_so}
use Rattle.disk_shelf.specs.Records.{DiskState, StandsFor}
use Rattle.disk_shelf.proofs.disk_shelf.DiskShelf+MemDisk.reopen.Goals as goal

pub returns-in-Ok-clause-stands : goal.returns-in-Ok-clause-stands
returns-in-Ok-clause-stands c =
    let state = ap (λ (k : Kept MemState). k.state) c.start-in-Ok.ensures ∙ ap (λ (k : Kept MemState). k.state) c.replace.ensures.after in
    let bytes =
    ap (λ (m : MemState). disk_bytes m) c.start.ensures ∙ ap (λ (m : MemState). disk_bytes m) c.replace-disk.ensures.value
    ∙ ap (λ (k : Kept MemState). disk_bytes k.disk) c.self.view_is
    in
    subst (λ (s : DiskState). StandsFor s (disk_bytes c.args.self.now.disk)) (sym state)
    (subst (λ (l : List ℕ). StandsFor c.in-Ok.opened.state l) bytes c.in-Ok.ensures.ok.1)

pub returns-in-Ok-clause-exact : goal.returns-in-Ok-clause-exact
returns-in-Ok-clause-exact c =
    let new = ap (λ (k : Kept MemState). k.disk.drive) c.start-in-Ok.ensures
    ∙ ap (λ (k : Kept MemState). started k.disk.drive) c.replace.ensures.after in
    let old = ap (λ (m : MemState). m.drive) c.start.ensures ∙ ap (λ (m : MemState). started m.drive) c.replace-disk.ensures.value
    ∙ ap (λ (k : Kept MemState). started k.disk.drive) c.self.view_is in
    new ∙ ap started (disks_open_so c.start.new.self c.in-Ok.opened.disk c.in-Ok.ensures.exact ∙ ap opened old)
