use Rattle.std.proofs.Common.{◌∷◌, []}
use Rattle.script_text.proofs.Loops.{repeat_kept}
use Rattle.script_print.proofs.printing.add_empty_lines.Goals as goal

pub loop-preserved : goal.loop-preserved
loop-preserved c = repeat_kept c.loop.out (10 ∷ []) c.add.new.self _ _ c.loop.counter c.loop-test.true c.loop.invariant c.in_ok-add.ensures.ok
