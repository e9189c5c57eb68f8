use Rattle.group_rebuild.proofs.Counting.{none_to_count, names_are_counted, all_are_finished}
use Rattle.group_rebuild.proofs.Telling.{are_tallied}
use Rattle.group_rebuild.proofs.laws.each_name_is_counted.Goals as goal

pub returns-clause-none : goal.returns-clause-none
returns-clause-none c = none_to_count

pub returns-clause-counted : goal.returns-clause-counted
returns-clause-counted c = names_are_counted

pub returns-clause-finished : goal.returns-clause-finished
returns-clause-finished c = all_are_finished

pub returns-clause-told : goal.returns-clause-told
returns-clause-told c = are_tallied
