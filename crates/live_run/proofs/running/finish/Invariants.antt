use Rattle.std.proofs.Common.{◌≡◌, length}
use Rattle.live_run.proofs.running.finish.Given as goal

-- no cell is lost
abbrev pub invariant-loop : goal.invariant-loop
invariant-loop g l = length l.cells.items ≡ length l.fn.cells.items
