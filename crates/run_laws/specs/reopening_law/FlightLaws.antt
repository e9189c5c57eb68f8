-- What is known of the segment that the owner of a log had in flight when it served last, taken together.
use Rattle.run_laws.specs.reopening_law.Falls.{FallsGoOn, FallsStay}
use Rattle.run_laws.specs.reopening_law.Flights.{FlightsOfOwners, OthersLeaveFlights}

pub record FlightLaws : Type 0 where
  pub falls_stay : FallsStay
  pub falls_go_on : FallsGoOn
  pub flights_of_owners : FlightsOfOwners
  pub others_leave_flights : OthersLeaveFlights
