pub mod Telling
mod Foundations
pub mod Trails
pub mod Calling
pub mod Clients
pub mod Writing
mod Versions
mod Newest
mod Incarnations
mod Filing
mod Cleaners
mod Others
pub mod Runs
pub mod Answered
