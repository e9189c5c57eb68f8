use Rattle.std.proofs.Common.{ap}
use Rattle.disk_shelf.specs.Kept.{Kept}
use Rattle.disk_shelf.specs.MemDisk.{MemState}
use Rattle.disk_play.proofs.Making.{welcome_set}
use Rattle.disk_play.proofs.change.welcome.Goals as goal

pub returns-in-Ok-clause-disk : goal.returns-in-Ok-clause-disk
returns-in-Ok-clause-disk c =
    welcome_set c.a_change_ends_by_the_passes_of_a_stop.ensures c.args.shelf.now c.requires c.args.generation c.welcomed.new.self c.start.new.self
    c.in-Ok.ensures.ok c.welcomed.ensures.idle c.in-Ok.ensures.exact (ap (λ (k : Kept MemState). k.disk.drive) c.start.ensures)
    (ap (λ (k : Kept MemState). k.state) c.start.ensures)
