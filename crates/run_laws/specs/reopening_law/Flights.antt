-- What the owner of a log had in flight when it served last, as the books of tokens have it: so it stays until its log is open again.
use Rattle.std.specs.Prelude.{◌≡◌, ℕ, suc, false, Option, is_some, IfSome}
use Rattle.client_log.specs.LogState.{LogState}
use Rattle.log_flight.specs.Flights.{FlightState}
use Rattle.log_law.specs.Events.{Runs}
use Rattle.log_law.specs.Net.Owner.{Serving}
use Rattle.log_law.specs.Net.{Net}
use Rattle.log_law.specs.Restarts.{is_serving, last_flight}
use Rattle.log_law.specs.Tails.{then_on}
use Rattle.node_logs.specs.client_log_tie.ClientEvents.{NeverServes}
use Rattle.log_tie.specs.Setting.{Setting}
use Rattle.node_slots.specs.node_tie.LogRows.{LogSeen, rows_told}
use Rattle.node_slots.specs.node_tie.Sight.{SameLog}
use Rattle.token_law.specs.Books.{Books}

-- The books have the flight as the segment behind the end of the log.
pub record LastFlew (k : Books) (l : ℕ) (flight : Option FlightState) : Type 0 where
  pub flying : k.flying l ≡ is_some flight
  pub next : IfSome flight (λ f. (f.segment.name.seq ≡ suc (k.end l)) × (k.rows l (suc (k.end l)) ≡ rows_told f.segment.items))

-- While the owner serves, what it had in flight when it served last is what is in flight, and the books that see its log have that.
pub record ServesWithIt (g : Setting) (k : Books) (l : ℕ) (flight : Option FlightState) (s : LogState) : Type 0 where
  pub flying : flight ≡ s.flight
  pub books : LastFlew k l flight

abbrev pub FlightsOfOwners : Type 0
FlightsOfOwners =
    (g : Setting) (first n : Net) (run : Runs g first n) (s : LogState) → n.owner ≡ Serving s → (k : Books) (l : ℕ) → LogSeen k l s
    → ServesWithIt g k l (last_flight run) s

-- In an event in which the owner serves nowhere that flight stays, and so do the books of a log of which the same is known.
abbrev pub FlightsStay : Type 0
FlightsStay =
    (g : Setting) (first n o : Net) (run : Runs g first n) (goes : Runs g n o) → NeverServes goes → (k m : Books) (l : ℕ) → SameLog k m l
    → LastFlew k l (last_flight run) → LastFlew m l (last_flight (then_on run goes))

-- Where others leave an owner that doesn't serve as it was, it served nowhere on the way.
abbrev pub OthersLeaveFlights : Type 0
OthersLeaveFlights = (g : Setting) (n o : Net) (goes : Runs g n o) → o.inc ≡ n.inc → o.owner ≡ n.owner → is_serving n.owner ≡ false → NeverServes goes
