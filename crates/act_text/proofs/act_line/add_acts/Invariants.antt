use Rattle.std.proofs.Common.{◌≡◌, ◌++◌, drop}
use Rattle.act_text.specs.Acts.{acts_text}
use Rattle.act_text.proofs.act_line.add_acts.Given as goal

abbrev pub invariant-loop-act : goal.invariant-loop-act
invariant-loop-act l = l.text ++ acts_text (drop l.act-index l.acts) ≡ l.fn.text ++ acts_text l.acts
