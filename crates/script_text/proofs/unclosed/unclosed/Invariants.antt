use Rattle.std.proofs.Common.{◌≤◌, length, drop}
use Rattle.script_text.proofs.Crashes.{Kept}
use Rattle.script_text.proofs.unclosed.unclosed.Given as goal

abbrev pub invariant-loop-left : goal.invariant-loop-left
invariant-loop-left l = record {
  kept : Kept (drop l.left l.items) l.restarted l.found;
  within : l.left ≤ length l.items;
}

abbrev pub decreases-loop-left : goal.decreases-loop-left
decreases-loop-left l = l.left
