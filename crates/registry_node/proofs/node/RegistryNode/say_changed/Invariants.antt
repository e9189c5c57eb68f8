use Rattle.std.proofs.Common.{◌≡◌, ◌++◌, drop}
use Rattle.std.specs.List.{flat_map}
use Rattle.registry_node.specs.Events.{say_one_changed}
use Rattle.registry_node.proofs.node.RegistryNode.say_changed.Given as goal

abbrev pub invariant-loop-out : goal.invariant-loop-out
invariant-loop-out l = l.effects ++ flat_map (say_one_changed l.fn.self) (drop l.out-index l.outs) ≡ l.initial.effects ++ flat_map (say_one_changed l.fn.self) l.outs
