pub mod Waits
pub mod Again
pub mod Runs
