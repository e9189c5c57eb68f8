use Rattle.std.proofs.Common.{◌≡◌, ◌-◌, ◌∷◌, ◌++◌, []}
use Rattle.std.specs.List.{repeat}
use Rattle.script_print.proofs.printing.add_empty_lines.Given as goal

abbrev pub invariant-loop : goal.invariant-loop
invariant-loop l = l.out ++ repeat (l.count - l.counter) (10 ∷ []) ≡ l.fn.out ++ repeat l.count (10 ∷ [])
