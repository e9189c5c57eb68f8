use Rattle.std.proofs.Common.{◌≡◌, ◌++◌, drop}
use Rattle.token_manager.specs.Recalls.{send_recalls}
use Rattle.token_manager.proofs.recalls.send_recalls.Given as goal

-- what was sent, and what is to be sent, is all
abbrev pub invariant-loop-recall : goal.invariant-loop-recall
invariant-loop-recall l = l.outs ++ send_recalls l.block (drop l.recall-index l.awaited) ≡ l.initial.outs ++ send_recalls l.block l.awaited
