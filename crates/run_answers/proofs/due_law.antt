pub mod Standing
pub mod Turns
pub mod Dues
pub mod Waiting
mod Giving
pub mod Runs
