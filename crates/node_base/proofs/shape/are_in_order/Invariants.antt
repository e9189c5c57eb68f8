use Rattle.std.proofs.Common.{◌≡◌, drop}
use Rattle.node_base.specs.Shape.{are_in_order}
use Rattle.node_base.proofs.shape.are_in_order.Given as goal

-- those so far are in order, so all are where those to come are
abbrev pub invariant-loop-place : goal.invariant-loop-place
invariant-loop-place l = are_in_order l.place (drop l.place l.slots) ≡ are_in_order 0 l.slots
