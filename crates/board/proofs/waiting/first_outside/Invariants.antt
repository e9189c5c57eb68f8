use Rattle.std.proofs.Common.{◌≡◌, drop}
use Rattle.board.specs.Waiting.{first_outside}
use Rattle.board.proofs.waiting.first_outside.Given as goal

-- those so far are in the list, so the first is among those to come
abbrev pub invariant-loop-command : goal.invariant-loop-command
invariant-loop-command l = first_outside l.list (drop l.command-index l.commands) ≡ first_outside l.list l.commands
