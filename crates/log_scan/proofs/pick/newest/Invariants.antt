use Rattle.std.proofs.Common.{◌≡◌, ◌++◌, drop}
use Rattle.std.specs.Prelude.{option_to_list}
use Rattle.log_scan.specs.Pick.{counting, newest}
use Rattle.log_scan.proofs.pick.newest.Given as goal

-- the newest of the newest so far and of what is to come
abbrev pub invariant-loop-list : goal.invariant-loop-list
invariant-loop-list l = newest (option_to_list l.best ++ counting l.low (drop l.list-index l.lists)) ≡ newest (counting l.low l.lists)
