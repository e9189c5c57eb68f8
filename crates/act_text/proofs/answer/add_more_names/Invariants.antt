use Rattle.std.proofs.Common.{◌≡◌, ◌++◌, drop}
use Rattle.act_text.specs.Answers.{more_names}
use Rattle.act_text.proofs.answer.add_more_names.Given as goal

abbrev pub invariant-loop-name : goal.invariant-loop-name
invariant-loop-name l = l.text ++ more_names (drop l.name-index l.names) ≡ l.fn.text ++ more_names l.names
