use Rattle.disk_play.proofs.Stopping.{take_none}
use Rattle.disk_play.proofs.stopped.stopped_servers_take_no_event.Goals as goal

pub returns : goal.returns
returns g c = record { takes_none = take_none }
