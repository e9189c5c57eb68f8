use Rattle.std.proofs.Common.{◌≡◌, ◌++◌, filter, drop}
use Rattle.takeover.specs.Rows.{is_of}
use Rattle.takeover.proofs.rows.add_those_of.Given as goal

-- the rows so far and those to come are all
abbrev pub invariant-loop-row : goal.invariant-loop-row
invariant-loop-row l = l.rows ++ filter (is_of l.slot) (drop l.row-index l.more) ≡ l.initial.rows ++ filter (is_of l.slot) l.more
