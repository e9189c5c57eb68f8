use Rattle.std.proofs.Common.{◌≡◌, ◌++◌, drop}
use Rattle.store_nodes.specs.ServerEvents.{of_log}
use Rattle.store_nodes.proofs.shelf_events.of_log.Given as goal

abbrev pub invariant-loop-meta : goal.invariant-loop-meta
invariant-loop-meta l = l.held ++ of_log l.fn.log (drop l.meta-index l.metas) ≡ of_log l.fn.log l.metas
