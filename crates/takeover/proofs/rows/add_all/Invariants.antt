use Rattle.std.proofs.Common.{◌≡◌, ◌++◌, drop}
use Rattle.takeover.proofs.rows.add_all.Given as goal

-- the rows so far and those to come are all
abbrev pub invariant-loop-row : goal.invariant-loop-row
invariant-loop-row l = l.rows ++ drop l.row-index l.more ≡ l.initial.rows ++ l.more
