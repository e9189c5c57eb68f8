use Rattle.std.proofs.Common.{◌≡◌, drop}
use Rattle.usage_table.specs.Counts.{count_of}
use Rattle.stripe_cleaner.proofs.counting.count_of.Given as goal

-- it is not among those so far
abbrev pub invariant-loop-seg : goal.invariant-loop-seg
invariant-loop-seg l = count_of (drop l.seg-index l.counts) l.name ≡ count_of l.counts l.name
