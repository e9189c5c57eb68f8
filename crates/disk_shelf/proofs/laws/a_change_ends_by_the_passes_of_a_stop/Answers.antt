use Rattle.disk_shelf.proofs.Stops.{changes_end_by_passes}
use Rattle.disk_shelf.proofs.laws.a_change_ends_by_the_passes_of_a_stop.Goals as goal

pub returns : goal.returns
returns c = changes_end_by_passes
