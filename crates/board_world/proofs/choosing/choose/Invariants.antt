use Rattle.std.proofs.Common.{◌≡◌, ◌++◌, drop}
use Rattle.board_world.proofs.choosing.choose.Given as goal

-- what is chosen so far, and what is to come, is all
abbrev pub invariant-loop-command : goal.invariant-loop-command
invariant-loop-command l = l.chosen ++ drop l.command-index l.more ≡ l.initial.chosen ++ l.more
