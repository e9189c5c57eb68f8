use Rattle.std.proofs.Common.{◌≡◌, ◌++◌, drop, map}
use Rattle.script_print.specs.Printing.{ended, group_line}
use Rattle.script_print.proofs.setup_text.add_groups.Given as goal

abbrev pub invariant-loop-group : goal.invariant-loop-group
invariant-loop-group l = l.out ++ ended (map group_line (drop l.group-index l.groups)) ≡ l.fn.out ++ ended (map group_line l.groups)
