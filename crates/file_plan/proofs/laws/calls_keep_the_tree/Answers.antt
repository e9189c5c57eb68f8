use Rattle.file_plan.proofs.Histories as histories
use Rattle.file_plan.proofs.laws.calls_keep_the_tree.Goals as goal

pub returns : goal.returns
returns c = record { meets = histories.every_call; few = histories.few_steps; from_nothing = histories.from_nothing }
