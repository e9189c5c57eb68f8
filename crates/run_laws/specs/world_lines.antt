pub mod Lines
pub mod Turns
pub mod Flights
pub mod Polls
pub mod Owners
pub mod Filing
pub mod LineLaws
pub mod FilingLaws
