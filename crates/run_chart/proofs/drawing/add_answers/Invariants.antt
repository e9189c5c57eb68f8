use Rattle.std.proofs.Common.{◌≡◌, ◌++◌, drop}
use Rattle.std.specs.List.{flat_map}
use Rattle.run_chart.specs.Drawing.{answer_of}
use Rattle.run_chart.proofs.drawing.add_answers.Given as goal

abbrev pub invariant-loop-act : goal.invariant-loop-act
invariant-loop-act l = l.text ++ flat_map answer_of (drop l.act-index l.acts) ≡ l.fn.text ++ flat_map answer_of l.acts
