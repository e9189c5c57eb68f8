use Rattle.std.proofs.Common.{◌≡◌, ◌++◌, ◌-◌, ◌≤◌, length}
use Rattle.std.specs.List.{repeat}
use Rattle.script_text.proofs.text.repeat_within.Given as goal

abbrev pub invariant-loop : goal.invariant-loop
invariant-loop l = record {
  same : l.text ++ repeat (l.count - l.counter) l.piece ≡ repeat l.count l.piece;
  short : length l.text ≤ l.limit;
}
