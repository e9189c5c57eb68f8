pub mod Turns
pub mod Dues
pub mod Runs
