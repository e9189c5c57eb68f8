use Rattle.std.proofs.Common.{◌≡◌, ◌+◌, [], All, length}
use Rattle.std.specs.Vec.Iter.{into_iter_items}
use Rattle.mounts.proofs.Made.{IsLeft}
use Rattle.mounts.proofs.starting.clients_of.Given as goal

-- nothing happened yet to the cells that are left, and the ports that are left stand behind those that were given
abbrev pub invariant-loop-port : goal.invariant-loop-port
invariant-loop-port g l = record {
  fresh : All (λ c. c.journal.moments ≡ []) l.left.items;
  count : length l.clients.items + length l.left.items ≡ length l.fn.cells.items;
  ports : length l.clients.items + length (into_iter_items l.port-iterator) ≡ length l.fn.ports.items;
  rest : IsLeft l.fn.ports.items (length l.clients.items) (into_iter_items l.port-iterator);
}
