-- What becomes of the flight of the last boot that served, where a restart ends.
use Rattle.std.specs.Prelude.{◌≡◌, ◌⊎◌, false, Some}
use Rattle.xfs_base.specs.declared.segment.SegName.{SegName}
use Rattle.segment_format.specs.declared.segment.Segment.{Segment}
use Rattle.log_flight.specs.Flights.{FlightState}
use Rattle.log_protocol.specs.Tables.{In}
use Rattle.log_tie.specs.Setting.{Setting}
use Rattle.log_law.specs.Net.{Net}
use Rattle.log_law.specs.Events.{Happens, Runs}
use Rattle.log_law.specs.Events.Runs.{Begun, On}
use Rattle.log_law.specs.Laws.{Moment, IsAttemptOf}
use Rattle.log_law.specs.Restarts.{EndsRestart, IsSureRun, last_flight}

-- a run, and what follows it
abbrev pub then_on : {g : Setting} {n m o : Net} → Runs g n m → Runs g m o → Runs g n o
then_on run Begun = run
then_on run (On later happens) = On (then_on run later) happens

-- it is filed: a segment that was in flight, of its number and its boot, with its content
abbrev pub IsTailAdopted : Setting → Net → FlightState → Type 0
IsTailAdopted g o f = (t : Segment) × In t o.flown × In t.name o.filed × IsAttemptOf g f t

-- no segment of its number and its boot is filed, at this moment or a later one
abbrev pub IsTailDiscarded : {g : Setting} {n o : Net} → Runs g n o → FlightState → Type 0
IsTailDiscarded {g = g} {o = o} run f =
    (p : Net) (later : Runs g o p) → IsSureRun (then_on run later) → (name : SegName) → In name p.filed → name.seq ≡ f.segment.name.seq
    → name.pass.inc ≡ f.segment.name.pass.inc → ⊥

-- At the event that ends a restart the flight of the last boot that served is filed, or it never will be; while no restart that ended was doubtful.
abbrev pub ATailIsFiledOrNever : Type 0
ATailIsFiledOrNever =
    (g : Setting) (n o : Net) → g.doubts ≡ false → (m : Moment g n) (happens : Happens g n o) → IsSureRun (On m.run happens) → EndsRestart n o
    → (f : FlightState) → last_flight m.run ≡ Some f → IsTailAdopted g o f ⊎ IsTailDiscarded (On m.run happens) f

-- This filed segment tells nothing, or is the tail: of the number and the boot of that flight, with its content.
abbrev pub TellsOnlyTheTail : {g : Setting} {n : Net} (m : Moment g n) → Net → SegName → Type 0
TellsOnlyTheTail {g = g} m o name =
    (t : Segment) × In t o.flown × (t.name ≡ name) × ((g.content t.items ≡ 0) ⊎ ((f : FlightState) × (last_flight m.run ≡ Some f) × IsAttemptOf g f t))

-- What is filed at the event that ends a restart, and wasn't before, tells nothing, or is the tail.
abbrev pub ARestartFilesTheTail : Type 0
ARestartFilesTheTail =
    (g : Setting) (n o : Net) → g.doubts ≡ false → (m : Moment g n) (happens : Happens g n o) → IsSureRun (On m.run happens) → EndsRestart n o
    → (name : SegName) → In name o.filed → In name n.filed ⊎ TellsOnlyTheTail m o name
