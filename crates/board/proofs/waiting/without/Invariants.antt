use Rattle.std.proofs.Common.{◌≡◌, ◌++◌, drop}
use Rattle.board.specs.Waiting.{without}
use Rattle.board.proofs.waiting.without.Given as goal

-- those that stayed so far and those to come are all
abbrev pub invariant-loop-command : goal.invariant-loop-command
invariant-loop-command l = l.rest ++ without l.list (drop l.command-index l.commands) ≡ without l.list l.commands
