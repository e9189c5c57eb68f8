use Rattle.std.proofs.Common.{◌≡◌, take}
use Rattle.xfs_base.proofs.copied.copy_each.Given as goal

-- the copies so far are the items so far
abbrev pub invariant-loop-item : goal.invariant-loop-item
invariant-loop-item g l = l.out ≡ take l.item-index l.item-items
