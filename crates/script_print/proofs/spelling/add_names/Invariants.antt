use Rattle.std.proofs.Common.{◌≡◌, ◌++◌, drop}
use Rattle.script_text.specs.Spelling.{slashed}
use Rattle.script_print.proofs.spelling.add_names.Given as goal

abbrev pub invariant-loop-name : goal.invariant-loop-name
invariant-loop-name l = l.out ++ slashed (drop l.name-index l.path) ≡ l.fn.out ++ slashed l.path
