pub mod Missed
pub mod Stored
