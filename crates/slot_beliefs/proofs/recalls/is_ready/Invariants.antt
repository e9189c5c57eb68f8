use Rattle.std.proofs.Common.{◌≡◌, drop}
use Rattle.slot_beliefs.specs.Recalls.{is_ready}
use Rattle.slot_beliefs.proofs.recalls.is_ready.Given as goal

-- what the answers so far named is applied
abbrev pub invariant-loop-recall : goal.invariant-loop-recall
invariant-loop-recall l = is_ready l.applied (drop l.recall-index l.awaited) ≡ is_ready l.applied l.awaited
