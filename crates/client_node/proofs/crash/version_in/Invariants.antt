use Rattle.std.proofs.Common.{◌≡◌, drop}
use Rattle.client_node.proofs.crash.version_in.Given as goal
use Rattle.client_node.specs.Crash.{version_in}

-- none of the items so far has the version
abbrev pub invariant-loop-item : goal.invariant-loop-item
invariant-loop-item l = version_in l.block l.low (drop l.item-index l.items) ≡ version_in l.block l.low l.items
