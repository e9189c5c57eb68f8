pub mod Events
pub mod Others
pub mod Runs
pub mod Whole
pub mod Answered
