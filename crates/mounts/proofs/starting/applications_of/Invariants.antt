use Rattle.std.proofs.Common.{◌≡◌, ◌+◌, length}
use Rattle.std.specs.Vec.Iter.{into_iter_items}
use Rattle.mounts.proofs.Made.{IsLeft}
use Rattle.mounts.proofs.starting.applications_of.Given as goal

-- the mounts that are left stand behind those that have an application
abbrev pub invariant-loop-mount : goal.invariant-loop-mount
invariant-loop-mount g l = record {
  count : length l.applications.items + length (into_iter_items l.mount-iterator) ≡ length l.fn.mounts.items;
  left : IsLeft l.fn.mounts.items (length l.applications.items) (into_iter_items l.mount-iterator);
}
