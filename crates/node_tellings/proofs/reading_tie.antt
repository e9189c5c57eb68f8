pub mod Readings
pub mod Arriving
pub mod Taking
mod ServingWalk
mod Openings
pub mod Clients
pub mod Cleaners
mod Slots
mod ManagerServing
pub mod Managers
mod Choosing
pub mod Meeting
pub mod Arrivals
pub mod Came
