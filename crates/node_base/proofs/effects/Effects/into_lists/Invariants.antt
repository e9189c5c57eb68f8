use Rattle.std.proofs.Common.{◌≡◌, ◌++◌}
use Rattle.std.specs.Vec.Iter.{into_iter_items}
use Rattle.node_base.specs.Effects.{packets_of, acts_of}
use Rattle.node_base.proofs.effects.Effects.into_lists.Given as goal

-- the packets and acts so far and those to come are all
abbrev pub invariant-loop-effect : goal.invariant-loop-effect
invariant-loop-effect l =
    (l.packets ++ packets_of l.node (into_iter_items l.effect-iterator) ≡ packets_of l.node (into_iter_items l.initial.effect-iterator))
    × (l.acts ++ acts_of l.node (into_iter_items l.effect-iterator) ≡ acts_of l.node (into_iter_items l.initial.effect-iterator))
