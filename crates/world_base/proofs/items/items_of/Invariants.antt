use Rattle.std.proofs.Common.{◌≡◌, ◌++◌, drop}
use Rattle.world_base.specs.Items.{items_of}
use Rattle.world_base.proofs.items.items_of.Given as goal

-- the items so far and those of the lines to come are all
abbrev pub invariant-loop-line : goal.invariant-loop-line
invariant-loop-line l = l.items ++ items_of (drop l.line-index l.lines) l.node ≡ items_of l.lines l.node
