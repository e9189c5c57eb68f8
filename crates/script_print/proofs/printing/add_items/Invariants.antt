use Rattle.std.proofs.Common.{◌≡◌, ◌++◌, drop}
use Rattle.script_print.specs.Printing.{items_text}
use Rattle.script_print.proofs.printing.add_items.Given as goal

abbrev pub invariant-loop-line : goal.invariant-loop-line
invariant-loop-line l = l.out ++ items_text l.number (drop l.line-index l.lines) ≡ l.fn.out ++ items_text l.before l.lines
