use Rattle.std.proofs.Common.{◌≡◌, ◌++◌}
use Rattle.usage_table.proofs.usage.listed.Given as goal

-- the rows so far and those to come are all
abbrev pub invariant-loop-seg : goal.invariant-loop-seg
invariant-loop-seg l = l.listed ++ l.seg-iterator ≡ l.counts.entries
