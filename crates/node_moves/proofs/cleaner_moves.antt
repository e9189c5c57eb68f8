pub mod Events
pub mod Keeping
pub mod JobWalk
pub mod Jobs
