-- A log writes segments of its own alone.
use Rattle.std.proofs.Common.{◌≡◌, ℕ}
use Rattle.std.specs.List.{AllByRecursion}
use Rattle.xfs_base.specs.declared.segment.LogId.{LogId}
use Rattle.group_map.specs.declared.group.Member.{Member}
use Rattle.log_flight.specs.Flights.{FlightState}
use Rattle.log_flight.specs.Fragments.{flight_fragment}
use Rattle.client_log.specs.declared.input.In.{In as Input}
use Rattle.client_log.specs.declared.input.In.TheVariants.{Put, Parts}
use Rattle.client_log.specs.declared.output.Out.{Out}
use Rattle.client_log.specs.declared.output.Out.TheVariants.{Send, Settled}
use Rattle.client_log.specs.LogState.{LogState}
use Rattle.client_log.specs.Transition.{Done, transition}
use Rattle.node_moves.proofs.LogWalk as log_walk
use Rattle.node_moves.proofs.LogWalk.{Walk}
use Rattle.node_logs.specs.node_log_tie.CleanerEvents.{IsOfLog}

module _ (log : LogId) where
  -- a fragment that is sent is of a segment of the log
  abbrev pub SendsOwn : Out → Type 0
  SendsOwn (Send f member) = f.meta.name.log ≡ log
  SendsOwn (Settled end rows) = Unit {0}

  pub record OwnDone (d : Done) : Type 0 where
    pub state : IsOfLog log d.state
    pub outs : AllByRecursion SendsOwn d.outs

  sends_own : (f : FlightState) (place : ℕ) (member : Member) → f.segment.name.log ≡ log → SendsOwn (Send (flight_fragment f.segment f.group place) member)
  unfolding flight_fragment
  sends_own f place member named = named

  abbrev walk : Walk
  walk = record {
    Waits = λ its dirty. its ≡ log;
    Flies = λ name items. name.log ≡ log;
    Says = SendsOwn;
    Puts = λ block change. Unit {0};
    Writes = λ items. Unit {0};
    puts = λ s block change new its. its;
    leaves = λ s its. its;
    seals = λ s its. its;
    writes = λ s items fact its. its;
    again = λ name items named. named;
    sends = sends_own;
    settles = λ f named. tt;
  }

  given : (i : Input) → log_walk.Given walk i
  given (Put block entry value) = tt
  given (Parts items) = tt
  given _ = tt

  -- whatever it takes
  pub own_log : (s : LogState) (i : Input) → IsOfLog log s → OwnDone (transition s i)
  own_log s i h =
      let d = log_walk.log_goes walk s i (given i) (record { waits = h.log; flies = h.flight }) in
      record { state = record { log = d.holds.waits; flight = d.holds.flies }; outs = d.says }
