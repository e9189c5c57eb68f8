mod Meeting
mod Calls
mod Allowed
pub mod Clients
pub mod Managers
pub mod Servers
mod Registries
pub mod Cleaners
pub mod Moments
pub mod Runs
