use Rattle.std.proofs.Common.{IsFalse, ap, subst, sym, ◌∙◌}
use Rattle.disk_shelf.specs.Drives.{opened}
use Rattle.disk_shelf.specs.Kept.{Kept}
use Rattle.disk_shelf.specs.MemDisk.{MemState, started}
use Rattle.disk_play.proofs.Making.{opened_new}
use Rattle.disk_play.proofs.change.empty_shelf.Goals as goal

pub returns-in-Ok : goal.returns-in-Ok
returns-in-Ok c =
    let shelf = c.in-Ok.shelf in
    let drive =
    ap (λ (k : Kept MemState). k.disk.drive) c.start.ensures
    ∙ ap started (c.an_opened_disk_has_a_gate.ensures c.new.result shelf.disk c.in-Ok.ensures.exact ∙ ap opened c.new.ensures)
    in
    let state =
    ap (λ (k : Kept MemState). k.state) c.start.ensures
    ∙ opened_new c.an_image_stands_for_one_state.ensures.one shelf.state c.new.result c.new.ensures c.in-Ok.ensures.ok.1
    in
    record {
      runs = record {
        is_open = subst (λ (k : Kept MemState). IsFalse k.closed) (sym c.start.ensures) c.in-Ok.ensures.ok.0;
        runs = ap (λ (k : Kept MemState). k.disk.drive.stopped) c.start.ensures;
        waits = ap (λ (k : Kept MemState). k.disk.drive.passes) c.start.ensures;
      };
      new = λ i. record { drive = drive i; state = state i };
    }
