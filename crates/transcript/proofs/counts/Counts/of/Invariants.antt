use Rattle.std.proofs.Common.{◌≡◌, ◌≤◌, drop}
use Rattle.std.specs.List.{fold}
use Rattle.transcript.specs.Counts.{counts_with, counts_of, acts_counted}
use Rattle.transcript.proofs.counts.Counts.of.Given as goal

abbrev pub invariant-loop-act : goal.invariant-loop-act
invariant-loop-act l = (fold counts_with l.counts (drop l.act-index l.acts) ≡ counts_of l.acts) × (acts_counted l.counts ≤ l.act-index)
