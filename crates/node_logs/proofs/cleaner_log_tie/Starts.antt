-- The cleaner at its start is seen in the opening of the small world, and its log stays written.
use Rattle.std.proofs.Common.{refl, sym, ap, arith}
use Rattle.client_log.specs.LogState.{log_start}
use Rattle.group_map.specs.Groups as groups
use Rattle.log_law.specs.Net.{Owner as owner}
use Rattle.log_law.specs.Net.{no_end}
use Rattle.node_logs.proofs.client_log_tie.Written.{what_fits_stays_written}
use Rattle.cleaner_job.specs.Starting.{cleaner_log}
use Rattle.node_logs.specs.cleaner_log_tie.OwnerEvents.{OwnerStarts}

pub owner_starts : OwnerStarts
owner_starts g fact setup works ids = record {
  lasts = record { number = refl; inc = refl; fresh = λ k later. refl };
  log = record {
    owner = ap (λ log. owner.Serving (log_start log 1 no_end (groups.group_map_start setup.servers setup.groups))) fact;
    own = record { log = sym fact; flight = tt };
  };
  written =
      what_fits_stays_written cleaner_log 1 no_end (groups.group_map_start setup.servers setup.groups) (omega arith, omega arith) (omega arith)
      (omega arith, (omega arith, omega arith), omega arith) ids;
  job = tt;
}
