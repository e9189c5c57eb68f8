use Rattle.std.proofs.Common.{◌≡◌, length}
use Rattle.std.specs.List.{AllByRecursion}
use Rattle.disk_play.specs.Standing.{IsNew}
use Rattle.disk_play.proofs.change.empty_shelves.Given as goal

-- so many, all new
abbrev pub invariant-loop : goal.invariant-loop
invariant-loop l = (length l.shelves.items ≡ l.counter) × AllByRecursion IsNew l.shelves.items
