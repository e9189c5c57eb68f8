use Rattle.run_laws.proofs.reopening_law.Flights.{flights_of_owners, flights_stay, others_leave_flights}
use Rattle.run_laws.proofs.reopening_law.flights_are_in_the_books.Goals as goal

pub returns : goal.returns
returns c = record { serving = flights_of_owners; away = flights_stay; others = others_leave_flights }
