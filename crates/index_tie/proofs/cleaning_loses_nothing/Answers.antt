use Rattle.index_tie.proofs.Runs.{each_index_is_the_join, managers_cover_their_horizon, newest_is_never_deleted, reigning_is_outdated, checkpoints_have_managers}
use Rattle.index_tie.proofs.cleaning_loses_nothing.Goals as goal

pub returns-clause-joins : goal.returns-clause-joins
returns-clause-joins c = each_index_is_the_join

pub returns-clause-covers : goal.returns-clause-covers
returns-clause-covers c = managers_cover_their_horizon

pub returns-clause-kept : goal.returns-clause-kept
returns-clause-kept c = newest_is_never_deleted

pub returns-clause-outdated : goal.returns-clause-outdated
returns-clause-outdated c = reigning_is_outdated

pub returns-clause-managed : goal.returns-clause-managed
returns-clause-managed c = checkpoints_have_managers
