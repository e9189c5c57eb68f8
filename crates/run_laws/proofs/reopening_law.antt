mod Books
mod Chains
mod Steps
mod Reopened
mod Reading
pub mod Flights
mod Following
mod Ending
mod Falling
mod Backing
