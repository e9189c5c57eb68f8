pub mod Filing
pub mod Moving
pub mod Holding
pub mod Running
pub mod Clients
pub mod Single
mod Events
pub mod Others
pub mod Runs
pub mod Whole
pub mod Since
pub mod Answered
