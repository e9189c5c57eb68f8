use Rattle.one_machine.proofs.its_table_holds_a_tree.Goals as goal
use Rattle.one_machine.proofs.Trees.{keeps}

pub returns : goal.returns
returns c = record { tree = keeps c.calls_keep_the_tree.ensures.meets c.calls_keep_the_tree.ensures.from_nothing }
