use Rattle.std.proofs.Common.{◌≡◌, ◌++◌, drop}
use Rattle.run_chart.specs.Marks.{lost_from}
use Rattle.run_chart.specs.Moments.{is_there}
use Rattle.run_chart.proofs.mark.add_lost.Given as goal

abbrev pub invariant-loop-nth : goal.invariant-loop-nth
invariant-loop-nth l = l.marks ++ lost_from (is_there l.coming) l.number l.nth (drop l.nth l.packets) ≡ l.fn.marks ++ lost_from (is_there l.coming) l.number 0 l.packets
