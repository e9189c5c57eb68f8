use Rattle.std.proofs.Common.{◌≡◌, drop}
use Rattle.std.specs.List.{list_any}
use Rattle.slot_beliefs.specs.Recalls.{answers}
use Rattle.slot_beliefs.proofs.recalls.is_awaited.Given as goal

-- none so far is the recall
abbrev pub invariant-loop-recall : goal.invariant-loop-recall
invariant-loop-recall l = list_any (answers l.client l.stamp) (drop l.recall-index l.awaited) ≡ list_any (answers l.client l.stamp) l.awaited
