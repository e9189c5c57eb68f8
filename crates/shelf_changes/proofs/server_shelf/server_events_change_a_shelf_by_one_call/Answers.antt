use Rattle.shelf_changes.proofs.Events.{events_change_by_one}
use Rattle.shelf_changes.proofs.server_shelf.server_events_change_a_shelf_by_one_call.Goals as goal

pub returns : goal.returns
returns c = events_change_by_one
