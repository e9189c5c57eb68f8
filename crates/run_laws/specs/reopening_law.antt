pub mod Flights
pub mod Falls
pub mod Reopens
pub mod Openings
pub mod Below
pub mod FlightLaws
pub mod ReopeningLaws
