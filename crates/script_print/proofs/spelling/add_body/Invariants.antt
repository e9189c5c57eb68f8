use Rattle.std.proofs.Common.{◌≡◌, ◌++◌, length}
use Rattle.script_print.specs.Printing.{text_body}
use Rattle.script_print.proofs.spelling.add_body.Given as goal

-- what was appended, and then what is left, is all
abbrev pub invariant-loop-rest : goal.invariant-loop-rest
invariant-loop-rest l = l.out ++ text_body l.rest ≡ l.fn.out ++ text_body l.bytes

abbrev pub decreases-loop-rest : goal.decreases-loop-rest
decreases-loop-rest l = length l.rest
