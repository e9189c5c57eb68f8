use Rattle.disk_play.proofs.unstopped.unstopped_scripts_are_played.Goals as goal
use Rattle.disk_play.proofs.WithoutStops.{unstopped_plays}

pub returns : goal.returns
returns g c = record { played = λ step shelf_of first script none. unstopped_plays step shelf_of first script none }
