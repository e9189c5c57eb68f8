use Rattle.std.proofs.Common.{◌≡◌, ◌++◌, drop}
use Rattle.act_text.specs.Acts.{falls_text}
use Rattle.act_text.proofs.act_line.add_falls.Given as goal

abbrev pub invariant-loop-fall : goal.invariant-loop-fall
invariant-loop-fall l = l.text ++ falls_text (drop l.fall-index l.falls) ≡ l.fn.text ++ falls_text l.falls
