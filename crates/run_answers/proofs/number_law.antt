pub mod Tellings
mod Evidence
mod Running
pub mod Awaiting
mod Asking
mod Taking
mod Events
pub mod Acting
mod Rebuilds
pub mod Cleanings
pub mod Choosing
pub mod Tallies
pub mod Turning
pub mod Jobs
pub mod Emptying
pub mod Sweeping
pub mod Counts
