mod Needs
mod Steps
mod Cutting
mod Asked
mod Waits
pub mod Again
mod Runs
