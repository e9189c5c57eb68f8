use Rattle.std.proofs.Common.{length}
use Rattle.file_plan.proofs.Parsing.{Reads}
use Rattle.file_plan.proofs.bucket.rows_from.Given as goal

abbrev pub invariant-loop-rest : goal.invariant-loop-rest
invariant-loop-rest l = Reads l.rows l.rest l.bytes

abbrev pub decreases-loop-rest : goal.decreases-loop-rest
decreases-loop-rest l = length l.rest
