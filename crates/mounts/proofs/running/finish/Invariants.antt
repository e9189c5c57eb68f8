use Rattle.std.proofs.Common.{◌≡◌, length}
use Rattle.mounts.proofs.running.finish.Given as goal

-- no cell is lost
abbrev pub invariant-loop : goal.invariant-loop
invariant-loop g l = (length l.clients.items ≡ length l.fn.clients.items) × (length l.others.items ≡ length l.fn.others.items)
