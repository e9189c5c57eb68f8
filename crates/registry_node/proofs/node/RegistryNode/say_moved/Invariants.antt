use Rattle.std.proofs.Common.{◌≡◌, ◌++◌, drop}
use Rattle.std.specs.List.{flat_map}
use Rattle.registry_node.specs.Events.{say_one_moved}
use Rattle.registry_node.proofs.node.RegistryNode.say_moved.Given as goal

abbrev pub invariant-loop-out : goal.invariant-loop-out
invariant-loop-out l =
    l.effects ++ flat_map (say_one_moved l.fn.self l.fn.number) (drop l.out-index l.outs) ≡ l.initial.effects ++ flat_map (say_one_moved l.fn.self l.fn.number) l.outs
