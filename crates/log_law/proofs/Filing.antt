-- What is filed or dropped stays so, and what was ever in flight stays so.
use Rattle.std.proofs.Common.{List, Option, Some, None, inr}
use Rattle.xfs_base.specs.declared.segment.SegName.{SegName}
use Rattle.segment_format.specs.declared.segment.Segment.{Segment}
use Rattle.group_map.specs.GroupMapState.{GroupMapState}
use Rattle.log_flight.specs.Flights.{FlightState}
use Rattle.client_log.specs.Transition as log
use Rattle.log_scan.specs.ScanState.{ScanState}
use Rattle.log_scan.specs.Transition as scan
use Rattle.log_protocol.specs.Tables.{In}
use Rattle.log_tie.specs.Setting.{Setting}
use Rattle.log_tie.specs.Seen.{log_filed}
use Rattle.log_law.specs.Net.{Net, Told, names_of, flown_with, chain_in, first_write, after_flight, after_told}
use Rattle.log_law.specs.Events.{Happens, Runs}
use Rattle.log_law.specs.Events.Happens.{Acts, Writes, Opens, Crashes, Restarts, Renews, Serves, Bars, Lists, Hears, Raises, Publishes, Welcomes, Drops}
use Rattle.log_law.specs.Events.Runs.{Begun, On}
use Rattle.log_law.proofs.Moves.{in_right}

pub record Grown (n o : Net) : Type 0 where
  pub filed : (name : SegName) → In name n.filed → In name o.filed
  pub flown : (s : Segment) → In s n.flown → In s o.flown
  pub dropped : (name : SegName) → In name n.dropped → In name o.dropped

with_flight : (f : Option FlightState) (before : List Segment) (s : Segment) → In s before → In s (flown_with f before)
with_flight None before s fact = fact
with_flight (Some f) before s fact = inr fact

same : (n : Net) → Grown n n
same n = record { filed = λ name fact. fact; flown = λ s fact. fact; dropped = λ name fact. fact }

module _ (g : Setting) (n : Net) where
  flight_grown : (chain : List Segment) (d : log.Done) (f : Option FlightState) → Grown n (after_flight g n chain d f)
  flight_grown chain d None =
      record {
        filed = λ name fact. in_right (log_filed g.log d.outs) _ name (in_right (names_of chain) n.filed name fact);
        flown = λ s fact. fact;
        dropped = λ name fact. fact;
      }
  flight_grown chain d (Some f) =
      record { filed = λ name fact. in_right (log_filed g.log d.outs) n.filed name fact; flown = λ s fact. inr fact; dropped = λ name fact. fact }

  told_grown : (s : ScanState) (d : scan.Done) (t : Option Told) (groups : Option GroupMapState) → Grown n (after_told g n s d t groups)
  told_grown s d None groups = record { filed = λ name fact. fact; flown = λ x fact. fact; dropped = λ name fact. fact }
  told_grown s d (Some t) None = record { filed = λ name fact. fact; flown = λ x fact. fact; dropped = λ name fact. fact }
  told_grown s d (Some t) (Some m) = record {
    filed = λ name fact. in_right (log_filed g.log (first_write g n.inc t.end m).outs) n.filed name fact;
    flown = λ x fact. with_flight (first_write g n.inc t.end m).state.flight n.flown x fact;
    dropped = λ name fact. fact;
  }

-- over one event
pub grows : (g : Setting) (n o : Net) → Happens g n o → Grown n o
grows g n o (Acts s i fact came texts) = record {
  filed = λ name among. in_right (log_filed g.log (log.transition s i).outs) n.filed name among;
  flown = λ x among. with_flight (log.transition s i).state.flight n.flown x among;
  dropped = λ name fact. fact;
}
grows g n o (Writes chain s i fact came texts) = flight_grown g n chain (log.transition s i) (log.transition s i).state.flight
grows g n o (Opens s i fact came can) = told_grown g n s (scan.transition s i) (chain_in (scan.transition s i).outs) (scan.transition s i).state.opening.groups
grows g n o Crashes = record { filed = λ name fact. fact; flown = λ s fact. fact; dropped = λ name fact. fact }
grows g n o (Restarts fact) = record { filed = λ name fact. fact; flown = λ s fact. fact; dropped = λ name fact. fact }
grows g n o (Renews m high doubts fact came) = record { filed = λ name fact. fact; flown = λ s fact. fact; dropped = λ name fact. fact }
grows g n o (Serves v deed some came) = record { filed = λ name fact. fact; flown = λ s fact. fact; dropped = λ name fact. fact }
grows g n o (Bars v l pass) = record { filed = λ name fact. fact; flown = λ s fact. fact; dropped = λ name fact. fact }
grows g n o (Lists v) = record { filed = λ name fact. fact; flown = λ s fact. fact; dropped = λ name fact. fact }
grows g n o (Hears v generation up reached) = record { filed = λ name fact. fact; flown = λ s fact. fact; dropped = λ name fact. fact }
grows g n o (Raises low name up fact below) = record { filed = λ name fact. fact; flown = λ s fact. fact; dropped = λ name fact. fact }
grows g n o (Publishes m whole) = record { filed = λ name fact. fact; flown = λ s fact. fact; dropped = λ name fact. fact }
grows g n o (Welcomes inc ask news m fact low whole) = record { filed = λ name fact. fact; flown = λ s fact. fact; dropped = λ name fact. fact }
grows g n o (Drops lists meta fact among below) = record { filed = λ name fact. fact; flown = λ s fact. fact; dropped = λ name fact. inr fact }

-- along a run
pub grown : (g : Setting) (n o : Net) → Runs g n o → Grown n o
grown g n o Begun = same n
grown g n o (On {m = m} run happens) =
    let a = grown g n m run in
    let b = grows g m o happens in record {
      filed = λ name fact. b.filed name (a.filed name fact);
      flown = λ s fact. b.flown s (a.flown s fact);
      dropped = λ name fact. b.dropped name (a.dropped name fact);
    }
