use Rattle.index_tie.proofs.Laws.{indexes_are_joins, places_are_exact, dropped_is_outdated, newest_is_kept}
use Rattle.index_tie.proofs.the_index_is_the_join.Goals as goal

pub returns : goal.returns
returns c = record { joins = indexes_are_joins; places = places_are_exact; dropped = dropped_is_outdated; kept = newest_is_kept }
