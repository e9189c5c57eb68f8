use Rattle.std.proofs.Common.{◌≡◌, ◌++◌, map, drop}
use Rattle.board.specs.declared.output.Out.TheVariants.{Apply}
use Rattle.board.proofs.leading.apply_each.Given as goal

-- the commands so far and those to come are all
abbrev pub invariant-loop-command : goal.invariant-loop-command
invariant-loop-command l = l.outs ++ map Apply (drop l.command-index l.commands) ≡ l.initial.outs ++ map Apply l.commands
