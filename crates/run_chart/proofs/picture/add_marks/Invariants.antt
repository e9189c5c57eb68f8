use Rattle.std.proofs.Common.{◌≡◌, ◌++◌, drop}
use Rattle.std.specs.List.{flat_map}
use Rattle.run_chart.specs.Drawing.{mark_text}
use Rattle.run_chart.proofs.picture.add_marks.Given as goal

abbrev pub invariant-loop-mark : goal.invariant-loop-mark
invariant-loop-mark l = l.out ++ flat_map (mark_text l.estate l.items l.rows) (drop l.mark-index l.marks) ≡ l.fn.out ++ flat_map (mark_text l.estate l.items l.rows) l.marks
