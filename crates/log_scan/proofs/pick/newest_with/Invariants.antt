use Rattle.std.proofs.Common.{◌≡◌, ◌++◌, drop}
use Rattle.std.specs.Prelude.{option_to_list}
use Rattle.log_scan.specs.Pick.{above, newest}
use Rattle.log_scan.proofs.pick.newest_with.Given as goal

-- the newest of the newest so far and of what is to come
abbrev pub invariant-loop-meta : goal.invariant-loop-meta
invariant-loop-meta l =
    newest (option_to_list l.best ++ above l.low (drop l.meta-index l.metas)) ≡ newest (option_to_list l.initial.best ++ above l.low l.metas)
