-- Runs that exist: the laws on falls and restarts speak of something.
use Rattle.std.specs.Prelude.{◌≡◌, ◌<◌, false, [], Some}
use Rattle.xfs_base.specs.Limits.{block_logs}
use Rattle.client_log.specs.LogState.{log_start}
use Rattle.group_map.specs.GroupMapState.{GroupMapState}
use Rattle.log_flight.specs.Flights.{FlightState}
use Rattle.log_protocol.specs.Tables.{In}
use Rattle.log_tie.specs.Setting.{Setting}
use Rattle.log_law.specs.Net.{Net, no_end}
use Rattle.log_law.specs.Net.Owner.{Serving}
use Rattle.log_law.specs.Events.{Happens}
use Rattle.log_law.specs.Events.Runs.{On}
use Rattle.log_law.specs.Laws.{Moment}
use Rattle.log_law.specs.Restarts.{EndsRestart, IsSureRun, last_flight}

-- A restart ends, no restart was doubtful, and what the last boot that served had in flight, as nothing was filed, is filed now.
pub record ATailAdopted (g : Setting) : Type 0 where
  pub sure : g.doubts ≡ false
  pub before : Net
  pub moment : Moment g before
  pub after : Net
  pub happens : Happens g before after
  pub calm : IsSureRun (On moment.run happens)
  pub ends : EndsRestart before after
  pub flight : FlightState
  pub was : last_flight moment.run ≡ Some flight
  pub nothing : before.filed ≡ []
  pub filed : In flight.segment.name after.filed

-- A manager's log began anew, in its second boot.
pub record ALogRenewed (g : Setting) : Type 0 where
  pub managers : block_logs < g.log.0
  pub net : Net
  pub moment : Moment g net
  pub groups : GroupMapState
  pub serves : net.owner ≡ Serving (log_start g.log 2 no_end groups)

-- Some run has each.
pub record SomeRestarts : Type 0 where
  pub adopted : (g : Setting) × ATailAdopted g
  pub renewed : (g : Setting) × ALogRenewed g
