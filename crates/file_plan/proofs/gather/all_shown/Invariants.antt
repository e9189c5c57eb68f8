use Rattle.std.proofs.Common.{◌≡◌, ◌++◌, drop, map}
use Rattle.file_plan.specs.Plan.{shown}
use Rattle.file_plan.proofs.gather.all_shown.Given as goal

abbrev pub invariant-loop-name : goal.invariant-loop-name
invariant-loop-name l = l.names ++ map shown (drop l.name-index l.rows) ≡ map shown l.rows
