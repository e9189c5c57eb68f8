use Rattle.registry.proofs.Rising.{stays_or_rises, told_where_it_rises}
use Rattle.registry.proofs.laws.versions_rise_by_one.Goals as goal

pub returns-clause-one : goal.returns-clause-one
returns-clause-one c = stays_or_rises

pub returns-clause-told : goal.returns-clause-told
returns-clause-told c = told_where_it_rises
