mod Leaving
mod Saying
pub mod Same
mod Takeovers
mod Flights
mod Slots
mod Tables
mod Checkpoints
mod Serving
pub mod Managers
pub mod Registries
