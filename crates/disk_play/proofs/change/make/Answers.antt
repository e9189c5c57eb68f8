use Rattle.std.proofs.Common.{rules, ap}
use Rattle.std.proofs.lemmas.Result.{on_ok_weaker}
use Rattle.std.specs.Prelude.{IsErrOf}
use Rattle.disk_shelf.specs.declared.disk_error.DiskError.TheVariants.{Fault}
use Rattle.disk_shelf.specs.Kept.{Kept}
use Rattle.disk_shelf.specs.MemDisk.{MemState}
use Rattle.disk_play.proofs.Making.{both_ok, cut_set, made_set}
use Rattle.disk_play.proofs.change.make.Goals as goal

pub returns-in-Ok-clause-disk : goal.returns-in-Ok-clause-disk
returns-in-Ok-clause-disk c =
    let shelf = c.args.shelf.now in
    made_set c.a_change_ends_by_the_passes_of_a_stop.ensures shelf c.args.passes c.requires.runs c.args.ask c.arm.new.shelf c.arm.ensures c.make.new.self
    c.start.new.self c.requires.changes c.in-Ok.ensures.ok c.in-Ok.ensures.exact (ap (λ (k : Kept MemState). k.disk.drive) c.start.ensures)
    (ap (λ (k : Kept MemState). k.state) c.start.ensures)

pub returns-in-Err-Fault-clause-disk : goal.returns-in-Err-Fault-clause-disk
returns-in-Err-Fault-clause-disk c =
    let shelf = c.args.shelf.now in
    let failed : IsErrOf c.make.result Fault = search rules in
    on_ok_weaker c.open_again.result
    (λ again. cut_set c.a_change_ends_by_the_passes_of_a_stop.ensures shelf c.args.passes c.requires.runs c.args.ask c.arm.new.shelf c.arm.ensures
    c.an_image_stands_for_one_state.ensures.one c.make.new.self.disk (c.make.ensures.cut failed) c.open_again.new.shelf again.0 again.1)
    (both_ok _ _ c.open_again.result c.open_again.ensures.stands c.open_again.ensures.drive)
