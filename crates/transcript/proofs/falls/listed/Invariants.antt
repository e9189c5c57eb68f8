use Rattle.std.proofs.Common.{◌≡◌, ◌++◌, map}
use Rattle.transcript.specs.Falls.{fallen_at}
use Rattle.transcript.proofs.falls.listed.Given as goal

-- those that were yielded are listed
abbrev pub invariant-loop-block : goal.invariant-loop-block
invariant-loop-block l = l.list ++ map fallen_at l.block-iterator ≡ map fallen_at l.fallen.entries
