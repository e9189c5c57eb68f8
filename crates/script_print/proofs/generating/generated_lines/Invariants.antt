use Rattle.std.proofs.Common.{◌≡◌, ◌+◌, ◌-◌, ◌*◌, ◌%◌, ◌≤◌, ◌++◌, length}
use Rattle.script_print.specs.Generator.{works_from, numbered}
use Rattle.script_print.proofs.generating.generated_lines.Given as goal

-- the items so far, and those of the turns that are left
abbrev pub invariant-loop-turn : goal.invariant-loop-turn
invariant-loop-turn l = record {
  lines : l.lines
      ++ numbered (8 + length l.lines) (works_from (l.turns - l.turn) (l.turn + 1) l.left) ≡ numbered 8 (works_from l.turns 1 (l.number % 2147483648));
  few : length l.lines ≤ 2 * l.turn;
}
