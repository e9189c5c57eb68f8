-- Restarts of the owner: how long one takes, and when it is doubtful.
use Rattle.log_flight.specs.Flights.{FlightState, server_of}
use Rattle.std.specs.Prelude.{◌≡◌, ℕ, ◌<◌, ◌≤◌, ◌⊎◌, Bool, true, false, length, None, Option}
use Rattle.xfs_base.specs.declared.segment.SegName.{SegName}
use Rattle.segment_format.specs.declared.segment.Segment.{Segment}
use Rattle.fragment_store.specs.ShelfState.{held_at}
use Rattle.log_protocol.specs.Tables.{In}
use Rattle.log_tie.specs.Setting.{Setting}
use Rattle.log_tie.specs.Seen.{members_of}
use Rattle.log_law.specs.Net.{Owner, Net}
use Rattle.log_law.specs.Net.Owner.{Down, Opening, Writing, Serving}
use Rattle.log_law.specs.Events.{Runs}
use Rattle.log_law.specs.Events.Runs.{Begun, On}

abbrev pub is_down : Owner → Bool
is_down Down = true
is_down (Opening s) = false
is_down (Writing chain s) = false
is_down (Serving s) = false

abbrev pub is_writing : Owner → Bool
is_writing Down = false
is_writing (Opening s) = false
is_writing (Writing chain s) = true
is_writing (Serving s) = false

abbrev pub is_serving : Owner → Bool
is_serving Down = false
is_serving (Opening s) = false
is_serving (Writing chain s) = false
is_serving (Serving s) = true

-- a restart ends: the opening segment is settled, and the owner serves
abbrev pub EndsRestart : Net → Net → Type 0
EndsRestart n o = (is_writing n.owner ≡ true) × (is_serving o.owner ≡ true)

-- the owner has written an opening segment since it served last
abbrev pub writes_since : Owner → Bool → Bool
writes_since Down before = before
writes_since (Opening s) before = before
writes_since (Writing chain s) before = true
writes_since (Serving s) before = false

abbrev pub wrote_in : {g : Setting} {n m : Net} → Runs g n m → Bool
wrote_in Begun = false
wrote_in (On {o = o} run happens) = writes_since o.owner (wrote_in run)

-- The span of a restart is from where it began until the owner serves. Where attempts since the owner served last were cut short by a fall once they had written
-- their opening segments, it is from where the first of these began: one that had written none leaves nothing that a later one could meet.
abbrev pub spans : Owner → Bool → Bool
spans Down wrote = wrote
spans (Opening s) wrote = true
spans (Writing chain s) wrote = true
spans (Serving s) wrote = false

abbrev pub in_span : {g : Setting} {n m : Net} → Runs g n m → Bool
in_span Begun = false
in_span (On {o = o} run happens) = spans o.owner (wrote_in run)

-- a server lacks its fragment of a segment that isn't dropped
abbrev pub Lacks : Net → SegName → ℕ → Type 0
Lacks n name v = (held_at (n.shelves v).held name ≡ None) × (In name n.dropped → ⊥)

-- so it was at some moment of the span
abbrev pub LackedInSpan : {g : Setting} {n m : Net} → Runs g n m → SegName → ℕ → Type 0
LackedInSpan Begun name v = ⊥
LackedInSpan (On {o = o} run happens) name v = (in_span (On run happens) ≡ true) × (Lacks o name v ⊎ LackedInSpan run name v)

-- A restart is doubtful where of the newest segment that was filed before it, unless that is below the horizon by which the chain was picked, each member
-- lacked its fragment at some moment of the span while the segment wasn't dropped.
pub record IsDoubtful (g : Setting) {n m : Net} (run : Runs g n m) : Type 0 where
  pub segment : Segment
  pub flown : In segment m.flown
  pub filed : In segment.name m.filed
  pub newest : (name : SegName) → In name m.filed → name.seq ≤ segment.name.seq
  pub above : m.picked ≤ segment.name.seq
  pub lost : (place : ℕ) → place < length (members_of g segment) → LackedInSpan run segment.name (server_of (members_of g segment) place)

-- no restart that ended was doubtful
abbrev pub IsSureRun : {g : Setting} {n m : Net} → Runs g n m → Type 0
IsSureRun Begun = Unit {0}
IsSureRun {g = g} (On {m = m} {o = o} run happens) = IsSureRun run × (EndsRestart m o → IsDoubtful g run → ⊥)

-- what the owner had in flight when it served last
abbrev pub flight_in : Owner → Option FlightState → Option FlightState
flight_in Down before = before
flight_in (Opening s) before = before
flight_in (Writing chain s) before = before
flight_in (Serving s) before = s.flight

abbrev pub last_flight : {g : Setting} {n m : Net} → Runs g n m → Option FlightState
last_flight (Begun {n = n}) = flight_in n.owner None
last_flight (On {o = o} run happens) = flight_in o.owner (last_flight run)
