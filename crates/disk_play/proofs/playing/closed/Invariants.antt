use Rattle.std.proofs.Common.{List, ◌++◌}
use Rattle.std.specs.Vec.Iter.{into_iter_items}
use Rattle.disk_shelf.specs.MemDisk.{MemState}
use Rattle.disk_play.specs.Standing.{AreTheirs}
use Rattle.disk_play.proofs.playing.closed.Given as goal

-- the disks so far, with those of the shelves to come, are those of all
abbrev pub invariant-loop-shelf : goal.invariant-loop-shelf
invariant-loop-shelf l =
    (ds : List MemState) → AreTheirs (into_iter_items l.shelf-iterator) ds → AreTheirs (into_iter_items l.initial.shelf-iterator) (l.disks ++ ds)
