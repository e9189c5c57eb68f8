use Rattle.std.proofs.Common.{◌≡◌, ◌++◌}
use Rattle.token_manager.specs.Recalls.{send_all}
use Rattle.token_manager.proofs.recalls.send_all.Given as goal

-- what was sent, and what is to be sent, is all
abbrev pub invariant-loop-block : goal.invariant-loop-block
invariant-loop-block l = l.outs ++ send_all l.block-iterator ≡ l.initial.outs ++ send_all l.jobs.entries
