use Rattle.std.proofs.Common.{◌≡◌, ◌++◌, drop}
use Rattle.run_chart.specs.Marks.{acts_from}
use Rattle.run_chart.proofs.mark.add_acts.Given as goal

abbrev pub invariant-loop-nth : goal.invariant-loop-nth
invariant-loop-nth l = l.marks ++ acts_from l.number l.nth (drop l.nth l.acts) ≡ l.fn.marks ++ acts_from l.number 0 l.acts
