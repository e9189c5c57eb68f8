use Rattle.std.proofs.Common.{◌≡◌, drop}
use Rattle.std.specs.FinMap.Entries.{is_sorted}
use Rattle.file_plan.specs.Names.{name_cmp}
use Rattle.file_plan.proofs.bucket.is_rising.Given as goal

abbrev pub invariant-loop-i : goal.invariant-loop-i
invariant-loop-i l = is_sorted name_cmp l.rows ≡ is_sorted name_cmp (drop l.i l.rows)
