-- The end of a log, what it has in flight, and what it files: what the law of tokens assumes of an owner that serves.
use Rattle.std.specs.Prelude.{◌≡◌, ◌+◌, ◌<◌, ◌≤◌, ◌⊎◌, false, Some, IfSome}
use Rattle.xfs_base.specs.declared.segment.SegName.{SegName}
use Rattle.log_flight.specs.Flights.{FlightState}
use Rattle.client_log.specs.LogState.{LogState}
use Rattle.log_protocol.specs.Tables.{In}
use Rattle.log_tie.specs.Setting.{Setting}
use Rattle.log_law.specs.Net.{Net}
use Rattle.log_law.specs.Net.Owner.{Serving}
use Rattle.log_law.specs.Events.{Happens}
use Rattle.log_law.specs.Laws.{Moment}
use Rattle.log_law.specs.Restarts.{IsSureRun}

-- The end is the last filed segment: filed numbers begin at 1, none is above it, and where it isn't 0 the segment that it names is filed. What is in flight is
-- the next one.
pub record EndIsLast (n : Net) (s : LogState) : Type 0 where
  pub some : (name : SegName) → In name n.filed → 0 < name.seq
  pub last : (name : SegName) → In name n.filed → name.seq ≤ s.end.seq
  pub filed : 0 < s.end.seq → In (record { log = s.log; seq = s.end.seq; pass = s.end.pass }) n.filed
  pub next : IfSome s.flight (λ f. f.segment.name.seq ≡ s.end.seq + 1)

-- while no restart that ended was doubtful
abbrev pub EndsAreLast : Type 0
EndsAreLast = (g : Setting) (n : Net) → g.doubts ≡ false → (m : Moment g n) → IsSureRun m.run → (s : LogState) → n.owner ≡ Serving s → EndIsLast n s

-- this name is what the log has in flight
abbrev pub IsFlight : LogState → SegName → Type 0
IsFlight s name = (f : FlightState) × (s.flight ≡ Some f) × (f.segment.name ≡ name)

-- What is filed while the owner serves was in flight.
abbrev pub FilesItsFlight : Type 0
FilesItsFlight =
    (g : Setting) (n o : Net) → Moment g n → (s : LogState) → n.owner ≡ Serving s → Happens g n o → (name : SegName) → In name o.filed
    → In name n.filed ⊎ IsFlight s name
