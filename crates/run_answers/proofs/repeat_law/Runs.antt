-- At each tick of a node of any kind what isn't acknowledged is said again, and so in every run.
use Rattle.core_world.specs.declared.any_node.AnyNode.TheVariants as any
use Rattle.run_answers.proofs.repeat_law.Cleaners.{cleaner_repeats}
use Rattle.run_answers.proofs.repeat_law.Clients.{client_repeats}
use Rattle.run_answers.proofs.repeat_law.Managers.{manager_repeats}
use Rattle.run_answers.specs.repeat_law.Runs.{EachRunRepeats, EachTickRepeats}

pub each_tick : EachTickRepeats
each_tick (any.Client c) far = λ s serves. client_repeats c s serves far
each_tick (any.Manager m) far = manager_repeats m far
each_tick (any.Server v) far = tt
each_tick (any.Cleaner c) far = λ s serves. cleaner_repeats c s serves far
each_tick (any.Registry r) far = tt

pub each_run : EachRunRepeats
each_run e count event happens ticks node was far = each_tick node far
